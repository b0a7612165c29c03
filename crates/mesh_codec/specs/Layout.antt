-- Where the parts of a tile stand (quantized-mesh-1.0).
use Rattle.std.specs.Prelude.{ℕ, ◌+◌, ◌*◌, List}
use Rattle.terrain_base.specs.declared.side.Side.{Side}
use Rattle.terrain_base.specs.declared.side.Side.TheVariants.{West, South, East, North}
use Rattle.mesh_codec.specs.declared.refusal.Array.{Array}
use Rattle.mesh_codec.specs.declared.refusal.Array.TheVariants.{U, V, Height}
use Rattle.mesh_codec.specs.Number.{number_at}
use Rattle.mesh_codec.specs.Text.{index_width, index_data_at}

-- how many vertices there are, behind the header
unfoldable pub vertices_in : List ℕ → ℕ
vertices_in bytes = number_at 4 bytes 88

-- where an array of so many vertices begins
abbrev pub array_at : ℕ → Array → ℕ
array_at vertices U = 92
array_at vertices V = 92 + 2 * vertices
array_at vertices Height = 92 + 4 * vertices

-- how many triangles there are, at the front of the index data
unfoldable pub triangles_in : List ℕ → ℕ
triangles_in bytes = number_at 4 bytes (index_data_at (vertices_in bytes))

-- where a list that begins at an offset ends: a count of four bytes, and so many indexes
unfoldable pub list_end : ℕ → List ℕ → ℕ → ℕ
list_end width bytes at = at + 4 + width * number_at 4 bytes at

-- where the edge lists begin, one behind the other
unfoldable pub west_at : List ℕ → ℕ
west_at bytes = index_data_at (vertices_in bytes) + 4 + index_width (vertices_in bytes) * (3 * triangles_in bytes)

unfoldable pub south_at : List ℕ → ℕ
south_at bytes = list_end (index_width (vertices_in bytes)) bytes (west_at bytes)

unfoldable pub east_at : List ℕ → ℕ
east_at bytes = list_end (index_width (vertices_in bytes)) bytes (south_at bytes)

unfoldable pub north_at : List ℕ → ℕ
north_at bytes = list_end (index_width (vertices_in bytes)) bytes (east_at bytes)

-- and where the extensions do
unfoldable pub extensions_at : List ℕ → ℕ
extensions_at bytes = list_end (index_width (vertices_in bytes)) bytes (north_at bytes)

abbrev pub edge_at : List ℕ → Side → ℕ
edge_at bytes West = west_at bytes
edge_at bytes South = south_at bytes
edge_at bytes East = east_at bytes
edge_at bytes North = north_at bytes
