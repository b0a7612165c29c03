-- A whole tile (quantized-mesh-1.0), by positions and as what is read of it.
use Rattle.std.specs.Prelude.{◌≡◌, ℕ, ◌+◌, ◌*◌, ◌≤◌, All, List, [], ◌∷◌, length, map, flat_map, drop}
use Rattle.std.specs.List.{range_with_len}
use Rattle.terrain_base.specs.declared.indexes.Indexes.{Indexes}
use Rattle.mesh_codec.specs.declared.codes.Codes.{Codes}
use Rattle.mesh_codec.specs.declared.header.Header.{Header}
use Rattle.terrain_base.specs.declared.side.Side.{Side}
use Rattle.terrain_base.specs.declared.side.Side.TheVariants.{West, South, East, North}
use Rattle.mesh_codec.specs.declared.refusal.Array.{Array}
use Rattle.mesh_codec.specs.declared.refusal.Array.TheVariants.{U, V, Height}
use Rattle.mesh_codec.specs.Number.{number_at}
use Rattle.mesh_codec.specs.Mesh.{Mesh, IsMesh, coordinate, edge_of}
use Rattle.terrain_base.specs.FirstUse.{corners}
use Rattle.mesh_codec.specs.Text.{index_width, index_data_at}
use Rattle.mesh_codec.specs.Difference.{HasCodes, code_at}
use Rattle.mesh_codec.specs.HighWater.{HasIndexes, HasEntries, entry_at, index_at}
use Rattle.mesh_codec.specs.Extension.{ExtensionData, IsExtension, extension_text, extensions_from}
use Rattle.mesh_codec.specs.Layout.{vertices_in, triangles_in, array_at, edge_at, extensions_at}

-- ---- what is read

-- three coordinates of eight bytes each
abbrev pub point_at : List ℕ → ℕ → List ℕ
point_at bytes at = number_at 8 bytes at ∷ number_at 8 bytes (at + 8) ∷ number_at 8 bytes (at + 16) ∷ []

unfoldable pub header_in : List ℕ → Header
header_in bytes = record {
  centre = point_at bytes 0;
  least = number_at 4 bytes 24;
  greatest = number_at 4 bytes 28;
  sphere_centre = point_at bytes 32;
  radius = number_at 8 bytes 56;
  horizon = point_at bytes 64;
}

-- a vertex, of so many
abbrev pub vertex_at : List ℕ → ℕ → ℕ → Codes
vertex_at bytes vertices k = record {
  u = code_at bytes (array_at vertices U) k;
  v = code_at bytes (array_at vertices V) k;
  height = code_at bytes (array_at vertices Height) k;
}

unfoldable pub vertex_list : List ℕ → List Codes
vertex_list bytes = map (vertex_at bytes (vertices_in bytes)) (range_with_len 0 (vertices_in bytes))

-- a triangle of so many vertices
abbrev pub triangle_at : List ℕ → ℕ → ℕ → Indexes
triangle_at bytes vertices k =
    let width = index_width vertices in let at = index_data_at vertices + 4 in
    record {
      a = index_at width bytes at (3 * k);
      b = index_at width bytes at (3 * k + 1);
      c = index_at width bytes at (3 * k + 2);
    }

unfoldable pub triangle_list : List ℕ → List Indexes
triangle_list bytes = map (triangle_at bytes (vertices_in bytes)) (range_with_len 0 (triangles_in bytes))

-- so many numbers of a width
abbrev pub entries_at : ℕ → List ℕ → ℕ → ℕ → List ℕ
entries_at width bytes at count = map (entry_at width bytes at) (range_with_len 0 count)

-- the vertices along an edge
unfoldable pub edge_list : List ℕ → Side → List ℕ
edge_list bytes edge = entries_at (index_width (vertices_in bytes)) bytes (edge_at bytes edge + 4)
    (number_at 4 bytes (edge_at bytes edge))

unfoldable pub extension_list : List ℕ → List ExtensionData
extension_list bytes = extensions_from bytes (extensions_at bytes)

-- how many extensions there are
unfoldable pub extensions_in : List ℕ → ℕ
extensions_in bytes = length (extension_list bytes)

unfoldable pub mesh_in : List ℕ → Mesh
mesh_in bytes = record {
  vertices = vertex_list bytes;
  triangles = triangle_list bytes;
  west = edge_list bytes West;
  south = edge_list bytes South;
  east = edge_list bytes East;
  north = edge_list bytes North;
}

-- ---- by positions

-- The bytes are a tile with this header, this mesh and these extensions: each part stands behind the one
-- before, and the last ends where the bytes do.
pub record Decodes (bytes : List ℕ) (header : Header) (mesh : Mesh) (extensions : List ExtensionData) : Type 0 where
  pub header_is : header_in bytes ≡ header
  pub is_mesh : IsMesh mesh
  pub vertex_count : vertices_in bytes ≡ length mesh.vertices
  pub codes : (array : Array) → HasCodes bytes (array_at (vertices_in bytes) array)
      (map (coordinate array) mesh.vertices)
  pub triangle_count : triangles_in bytes ≡ length mesh.triangles
  pub indexes : HasIndexes (index_width (vertices_in bytes)) bytes (index_data_at (vertices_in bytes) + 4)
      (corners mesh.triangles)
  pub edge_counts : (edge : Side) → number_at 4 bytes (edge_at bytes edge) ≡ length (edge_of mesh edge)
  pub edges : (edge : Side) → HasEntries (index_width (vertices_in bytes)) bytes (edge_at bytes edge + 4)
      (edge_of mesh edge)
  pub long_enough : extensions_at bytes ≤ length bytes
  pub to_the_end : drop (extensions_at bytes) bytes ≡ flat_map extension_text extensions
  pub are_extensions : All IsExtension extensions

-- the bytes are a tile
abbrev pub IsSomeTile : List ℕ → Type 0
IsSomeTile bytes = (header : Header) × (mesh : Mesh) × (extensions : List ExtensionData)
    × Decodes bytes header mesh extensions
