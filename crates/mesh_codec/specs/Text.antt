-- The one spelling of a header and a mesh (quantized-mesh-1.0).
use Rattle.std.specs.Prelude.{ℕ, ◌+◌, ◌-◌, ◌*◌, ◌/◌, ◌^◌, ◌≡◌, ◌<◌, ◌≤◌, All, ◌==◌, nat_lt, nat_le, List, [], ◌∷◌, ◌++◌, length, map, flat_map, replicate, if◌then◌else◌}
use Rattle.byteorder.specs.Endian.{little_bytes}
use Rattle.mesh_codec.specs.declared.header.Header.{Header}
use Rattle.mesh_codec.specs.declared.refusal.Array.TheVariants.{U, V, Height}
use Rattle.mesh_codec.specs.Mesh.{Mesh, coordinate}
use Rattle.terrain_base.specs.FirstUse.{corners}

-- three coordinates of eight bytes each
abbrev pub IsPoint : List ℕ → Type 0
IsPoint point = (length point ≡ 3) × All (λ coordinate. coordinate < 2 ^ 64) point

-- bit patterns of the widths of a header's fields
pub record IsHeader (header : Header) : Type 0 where
  pub centre : IsPoint header.centre
  pub least : header.least < 2 ^ 32
  pub greatest : header.greatest < 2 ^ 32
  pub sphere_centre : IsPoint header.sphere_centre
  pub radius : header.radius < 2 ^ 64
  pub horizon : IsPoint header.horizon

-- a point's spelling
abbrev pub point_text : List ℕ → List ℕ
point_text point = flat_map (little_bytes 8) point

-- the header, 88 bytes
unfoldable pub header_text : Header → List ℕ
header_text header =
    point_text header.centre ++ (little_bytes 4 header.least ++ (little_bytes 4 header.greatest
    ++ (point_text header.sphere_centre ++ (little_bytes 8 header.radius ++ point_text header.horizon))))

-- the zig-zag word of the difference between a code and the one before: 2 d for d more, 2 d - 1 for d less
abbrev pub zigzag : ℕ → ℕ → ℕ
zigzag before code = if nat_le before code then 2 * (code - before) else 2 * (before - code) - 1

-- an array of codes, of two bytes each, behind a code
abbrev pub array_text : ℕ → List ℕ → List ℕ
array_text before [] = []
array_text before (code ∷ codes) = little_bytes 2 (zigzag before code) ++ array_text code codes

-- the bytes of an index: two, or four where there are more than 65536 vertices
unfoldable pub index_width : ℕ → ℕ
index_width vertices = if nat_lt 65536 vertices then 4 else 2

-- the first multiple of a width that is no lower
abbrev pub aligned : ℕ → ℕ → ℕ
aligned width at = (at + (width - 1)) / width * width

-- where the index data begin, behind the arrays and the padding
unfoldable pub index_data_at : ℕ → ℕ
index_data_at vertices = aligned (index_width vertices) (92 + 6 * vertices)

unfoldable pub padding_text : ℕ → List ℕ
padding_text vertices = replicate (index_data_at vertices - (92 + 6 * vertices)) 0

-- the high water mark behind an index: one more where the index is the mark
abbrev pub mark_after : ℕ → ℕ → ℕ
mark_after mark index = if index == mark then mark + 1 else mark

-- no index is beyond the mark where it stands
abbrev pub AreWithinMark : ℕ → List ℕ → Type 0
AreWithinMark mark [] = Unit {0}
AreWithinMark mark (index ∷ indexes) = (index ≤ mark) × AreWithinMark (mark_after mark index) indexes

-- indexes by high water mark: each as the mark less the index
abbrev pub indexes_text : ℕ → ℕ → List ℕ → List ℕ
indexes_text width mark [] = []
indexes_text width mark (index ∷ indexes) =
    little_bytes width (mark - index) ++ indexes_text width (mark_after mark index) indexes

-- a list of vertices along an edge
abbrev pub edge_text : ℕ → List ℕ → List ℕ
edge_text width list = little_bytes 4 (length list) ++ flat_map (little_bytes width) list

abbrev pub edges_text : ℕ → Mesh → List ℕ
edges_text width mesh = edge_text width mesh.west
    ++ (edge_text width mesh.south ++ (edge_text width mesh.east ++ edge_text width mesh.north))

abbrev pub arrays_text : Mesh → List ℕ
arrays_text mesh =
    array_text 0 (map (coordinate U) mesh.vertices) ++ (array_text 0 (map (coordinate V) mesh.vertices)
    ++ array_text 0 (map (coordinate Height) mesh.vertices))

abbrev pub triangles_text : ℕ → Mesh → List ℕ
triangles_text width mesh = little_bytes 4 (length mesh.triangles) ++ indexes_text width 0 (corners mesh.triangles)

-- the whole, without an extension
unfoldable pub tile_text : Header → Mesh → List ℕ
tile_text header mesh = let width = index_width (length mesh.vertices) in
    header_text header ++ (little_bytes 4 (length mesh.vertices)
    ++ (arrays_text mesh ++ (padding_text (length mesh.vertices)
    ++ (triangles_text width mesh ++ edges_text width mesh))))
