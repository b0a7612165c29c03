-- Which refusal bytes get: the first whose condition holds, in the order of the bytes.
use Rattle.std.specs.Prelude.{ℕ, zero, suc, ◌+◌, ◌-◌, ◌*◌, nat_lt, nat_le, nat_eq, Bool, not, List, [], ◌∷◌, ◌++◌, length, map, Option, is_some, if◌then◌else◌}
use Rattle.std.specs.List.{range_with_len, starts_with}
use Rattle.std.specs.Option.{option_map}
use Rattle.common_laws.specs.First.{◌when◌, first_of}
use Rattle.terrain_base.specs.declared.side.Side.{Side}
use Rattle.terrain_base.specs.declared.side.Side.TheVariants.{West, South, East, North}
use Rattle.mesh_codec.specs.declared.refusal.Array.{Array}
use Rattle.mesh_codec.specs.declared.refusal.Array.TheVariants.{U, V, Height}
use Rattle.mesh_codec.specs.declared.refusal.TileRefusal.{TileRefusal}
use Rattle.mesh_codec.specs.declared.refusal.TileRefusal.TheVariants.{Truncated, CoordinateOutOfRange, IndexOutOfRange, EdgeIndexTooLarge, ExtensionTruncated, Compressed}
use Rattle.mesh_codec.specs.Number.{number_at}
use Rattle.mesh_codec.specs.Text.{index_width, index_data_at}
use Rattle.mesh_codec.specs.Difference.{running_value, to_code}
use Rattle.mesh_codec.specs.HighWater.{entry_at, mark_at, is_no_vertex}
use Rattle.mesh_codec.specs.Extension.{extension_end}
use Rattle.mesh_codec.specs.Layout.{vertices_in, array_at, west_at, south_at, east_at, north_at, extensions_at}

-- a part of so many bytes, from an offset on, does not fit
abbrev pub part_condition : List ℕ → ℕ → ℕ → Option TileRefusal
part_condition bytes at need = (Truncated at need when nat_lt (length bytes) (at + need))

-- the running value at a place is no code
abbrev pub code_condition : List ℕ → Array → ℕ → ℕ → Option TileRefusal
code_condition bytes array at k = (CoordinateOutOfRange array k when not (is_some (to_code (running_value bytes at k))))

-- an array of so many codes
unfoldable pub array_conditions : List ℕ → Array → ℕ → ℕ → List (Option TileRefusal)
array_conditions bytes array at count =
    part_condition bytes at (2 * count) ∷ map (code_condition bytes array at) (range_with_len 0 count)

-- the arrays of so many vertices, and the padding
unfoldable pub vertex_conditions : List ℕ → ℕ → List (Option TileRefusal)
vertex_conditions bytes vertices =
    array_conditions bytes U (array_at vertices U) vertices ++ (array_conditions bytes V (array_at vertices V) vertices
    ++ (array_conditions bytes Height (array_at vertices Height) vertices
    ++ part_condition bytes (92 + 6 * vertices) (index_data_at vertices - (92 + 6 * vertices)) ∷ []))

-- the index at a place is negative or none of so many vertices
abbrev pub index_condition : List ℕ → ℕ → ℕ → ℕ → Option TileRefusal
index_condition bytes vertices at k =
    let width = index_width vertices in
    (IndexOutOfRange k when is_no_vertex vertices (mark_at width bytes at k) (entry_at width bytes at k))

-- the triangles of so many vertices: the count at an offset, and three codes for each
unfoldable pub triangle_conditions : List ℕ → ℕ → ℕ → List (Option TileRefusal)
triangle_conditions bytes vertices at =
    let codes = 3 * number_at 4 bytes at in
    part_condition bytes at 4 ∷ part_condition bytes (at + 4) (index_width vertices * codes)
    ∷ map (index_condition bytes vertices (at + 4)) (range_with_len 0 codes)

-- the index at a place of an edge's list is none of so many vertices
abbrev pub entry_condition : List ℕ → ℕ → Side → ℕ → ℕ → Option TileRefusal
entry_condition bytes vertices edge at k =
    (EdgeIndexTooLarge edge k when nat_le vertices (entry_at (index_width vertices) bytes at k))

-- an edge's list: the count at an offset, and so many indexes
unfoldable pub edge_conditions : List ℕ → ℕ → Side → ℕ → List (Option TileRefusal)
edge_conditions bytes vertices edge at =
    let count = number_at 4 bytes at in
    part_condition bytes at 4 ∷ part_condition bytes (at + 4) (index_width vertices * count)
    ∷ map (entry_condition bytes vertices edge (at + 4)) (range_with_len 0 count)

-- the extensions from an offset on, at most so many
abbrev pub some_extension_conditions : ℕ → List ℕ → ℕ → List (Option TileRefusal)
some_extension_conditions zero bytes at = []
some_extension_conditions (suc most) bytes at =
    if nat_lt at (length bytes)
    then (ExtensionTruncated at when nat_lt (length bytes) (extension_end bytes at))
    ∷ some_extension_conditions most bytes (extension_end bytes at)
    else []

-- the extensions from an offset on: there are no more of them than bytes
unfoldable pub extension_conditions : List ℕ → ℕ → List (Option TileRefusal)
extension_conditions bytes at = some_extension_conditions (length bytes) bytes at

-- all of them, in order
unfoldable pub conditions_of : List ℕ → List (Option TileRefusal)
conditions_of bytes = let vertices = vertices_in bytes in
    part_condition bytes 0 88 ∷ part_condition bytes 88 4 ∷ (vertex_conditions bytes vertices
    ++ (triangle_conditions bytes vertices (index_data_at vertices)
    ++ (edge_conditions bytes vertices West (west_at bytes) ++ (edge_conditions bytes vertices South (south_at bytes)
    ++ (edge_conditions bytes vertices East (east_at bytes) ++ (edge_conditions bytes vertices North (north_at bytes)
    ++ extension_conditions bytes (extensions_at bytes)))))))

-- the bytes begin as a gzip file does (RFC 1952, 2.3.1: the magic number 1F 8B)
abbrev pub is_gzip : List ℕ → Bool
is_gzip bytes = starts_with nat_eq bytes (31 ∷ 139 ∷ [])

-- the refusal that bytes get, and none where they are a tile
unfoldable pub tile_refusal_of : List ℕ → Option TileRefusal
tile_refusal_of bytes = let first = first_of (conditions_of bytes) in
    if is_gzip bytes then option_map (λ refusal. Compressed) first else first
