-- Bytes with padding of zeros and without an extension are the spelling of what they decode to.
use Rattle.std.proofs.Common.{◌≡◌, ℕ, ◌+◌, ◌-◌, ◌*◌, ◌≤◌, List, [], ◌++◌, length, map, drop, sym, ap, ◌∙◌, arith, append_assoc}
use Rattle.std.proofs.lemmas.List.{length-map, append-nil}
use Rattle.byteorder.specs.Endian.{little_bytes}
use Rattle.mesh_codec.specs.declared.header.Header.{Header}
use Rattle.mesh_codec.specs.declared.refusal.Array.{Array}
use Rattle.mesh_codec.specs.declared.refusal.Array.TheVariants.{U, V, Height}
use Rattle.terrain_base.specs.declared.side.Side.{Side}
use Rattle.terrain_base.specs.declared.side.Side.TheVariants.{West, South, East, North}
use Rattle.mesh_codec.specs.Number.{number_at, AreBytes}
use Rattle.mesh_codec.specs.Mesh.{Mesh, coordinate, edge_of}
use Rattle.terrain_base.specs.FirstUse.{corners}
use Rattle.mesh_codec.specs.Text.{header_text, point_text, array_text, arrays_text, index_width, index_data_at, padding_text, indexes_text, triangles_text, edge_text, edges_text, tile_text}
use Rattle.mesh_codec.specs.Layout.{vertices_in, triangles_in, array_at, list_end, west_at, south_at, east_at, north_at, extensions_at, edge_at}
use Rattle.mesh_codec.specs.Padding.{HasZeroPadding}
use Rattle.mesh_codec.specs.Tile.{point_at, header_in, Decodes}
use Rattle.mesh_codec.proofs.Texts.{index_data_beyond}
use Rattle.mesh_codec.proofs.Sounds.{Sound}
use Rattle.mesh_codec.proofs.Uniqueness.{corners_length, sound_by}
use Rattle.mesh_codec.proofs.Spellings.{Spells, both, known_spelled, number_spelled, point_spelled, zeros_spelled, array_spelled, indexes_spelled, list_spelled}

header_spelled : (bytes : List ℕ) → AreBytes bytes → 88 ≤ length bytes → Spells bytes 0 88 (header_text (header_in bytes))
unfolding header_text header_in
header_spelled bytes are long =
    let points = λ (at : ℕ). point_text (point_at bytes at) in
    let horizon = point_spelled bytes are 64 (omega (arith, long)) in
    let radius = both bytes 56 64 88 (little_bytes 8 (number_at 8 bytes 56)) (points 64) (number_spelled bytes are 8 56 (omega (arith, long))) horizon in
    let sphere = both bytes 32 56 88 (points 32) (little_bytes 8 (number_at 8 bytes 56) ++ points 64) (point_spelled bytes are 32 (omega (arith, long))) radius in
    let greatest = both bytes 28 32 88 (little_bytes 4 (number_at 4 bytes 28)) (points 32 ++ (little_bytes 8 (number_at 8 bytes 56) ++ points 64)) (number_spelled bytes are 4 28 (omega (arith, long))) sphere in
    let least = both bytes 24 28 88 (little_bytes 4 (number_at 4 bytes 24)) (little_bytes 4 (number_at 4 bytes 28) ++ (points 32 ++ (little_bytes 8 (number_at 8 bytes 56) ++ points 64))) (number_spelled bytes are 4 24 (omega (arith, long))) greatest in
    both bytes 0 24 88 (points 0) (little_bytes 4 (number_at 4 bytes 24) ++ (little_bytes 4 (number_at 4 bytes 28) ++ (points 32 ++ (little_bytes 8 (number_at 8 bytes 56) ++ points 64)))) (point_spelled bytes are 0 (omega (arith, long))) least

module _ (bytes : List ℕ) (header : Header) (mesh : Mesh) (are : AreBytes bytes) (decodes : Decodes bytes header mesh []) (zeros : HasZeroPadding bytes) where
  abbrev vertices : ℕ
  vertices = vertices_in bytes

  abbrev width : ℕ
  width = index_width vertices

  sound : Sound bytes
  sound = sound_by bytes header mesh [] decodes

  -- ---- the header and the vertices
  head : Spells bytes 0 92 (header_text header ++ little_bytes 4 vertices)
  unfolding vertices_in
  head =
      let header_is = header_spelled bytes are (omega (arith, sound.counted)) ∙ ap (λ h. header_text h ++ drop 88 bytes) decodes.header_is in
      both bytes 0 88 92 (header_text header) (little_bytes 4 vertices) header_is (number_spelled bytes are 4 88 (omega (arith, sound.counted)))

  array : (which : Array) (end : ℕ) → array_at vertices which + 2 * vertices ≡ end → Spells bytes (array_at vertices which) end (array_text 0 (map (coordinate which) mesh.vertices))
  array which end e =
      let codes = map (coordinate which) mesh.vertices in
      let total : length codes ≡ vertices = length-map mesh.vertices (coordinate which) ∙ sym decodes.vertex_count in
      let last : array_at vertices which + 2 * length codes ≡ end = ap (λ n. array_at vertices which + 2 * n) total ∙ e in
      array_spelled bytes are codes (array_at vertices which) (omega (arith, total, (sound.arrays which).fits)) (decodes.codes which) ∙ ap (λ n. array_text 0 codes ++ drop n bytes) last

  arrays : Spells bytes 92 (92 + 6 * vertices) (arrays_text mesh)
  arrays =
      let us = array_text 0 (map (coordinate U) mesh.vertices) in
      let vs = array_text 0 (map (coordinate V) mesh.vertices) in
      let heights = array_text 0 (map (coordinate Height) mesh.vertices) in
      both bytes 92 (92 + 2 * vertices) (92 + 6 * vertices) us (vs ++ heights) (array U (92 + 2 * vertices) (omega arith))
      (both bytes (92 + 2 * vertices) (92 + 4 * vertices) (92 + 6 * vertices) vs heights (array V (92 + 4 * vertices) (omega arith)) (array Height (92 + 6 * vertices) (omega arith)))

  padding : Spells bytes (92 + 6 * vertices) (index_data_at vertices) (padding_text vertices)
  unfolding padding_text
  padding =
      let start = 92 + 6 * vertices in
      let size = index_data_at vertices - start in
      let whole : start + size ≡ index_data_at vertices = omega (arith, (index_data_beyond vertices).0) in
      zeros_spelled bytes are size start (omega (arith, whole, sound.triangles.fits)) (λ place from to. zeros place from (omega (arith, to, whole)))
      ∙ ap (λ n. padding_text vertices ++ drop n bytes) whole

  -- ---- the triangles and the edges
  triangles : Spells bytes (index_data_at vertices) (west_at bytes) (triangles_text width mesh)
  unfolding west_at triangles_in
  triangles =
      let at = index_data_at vertices in
      let count = number_at 4 bytes at in
      let indexes = corners mesh.triangles in
      let total : length indexes ≡ 3 * count = omega (arith, corners_length mesh.triangles, decodes.triangle_count) in
      let end : at + 4 + width * length indexes ≡ at + 4 + width * (3 * count) = ap (λ n. at + 4 + width * n) total in
      both bytes at (at + 4) (at + 4 + width * (3 * count)) (little_bytes 4 (length mesh.triangles)) (indexes_text width 0 indexes)
      (known_spelled bytes are 4 at (length mesh.triangles) (omega (arith, sound.triangles.fits)) decodes.triangle_count)
      (indexes_spelled bytes are width indexes (at + 4) (omega (arith, end, sound.triangles.fits)) decodes.indexes ∙ ap (λ n. indexes_text width 0 indexes ++ drop n bytes) end)

  edge : (which : Side) → Spells bytes (edge_at bytes which) (list_end width bytes (edge_at bytes which)) (edge_text width (edge_of mesh which))
  edge which = list_spelled bytes are width (edge_of mesh which) (edge_at bytes which) (sound.edges which).fits (decodes.edge_counts which) (decodes.edges which)

  edges : Spells bytes (west_at bytes) (extensions_at bytes) (edges_text width mesh)
  unfolding south_at east_at north_at extensions_at
  edges =
      let text = λ (which : Side). edge_text width (edge_of mesh which) in
      both bytes (west_at bytes) (south_at bytes) (extensions_at bytes) (text West) (text South ++ (text East ++ text North)) (edge West)
      (both bytes (south_at bytes) (east_at bytes) (extensions_at bytes) (text South) (text East ++ text North) (edge South)
      (both bytes (east_at bytes) (north_at bytes) (extensions_at bytes) (text East) (text North) (edge East) (edge North)))

  -- ---- the whole
  behind_vertices : Spells bytes (92 + 6 * vertices) (extensions_at bytes) (padding_text vertices ++ (triangles_text width mesh ++ edges_text width mesh))
  behind_vertices =
      both bytes (92 + 6 * vertices) (index_data_at vertices) (extensions_at bytes) (padding_text vertices) (triangles_text width mesh ++ edges_text width mesh) padding
      (both bytes (index_data_at vertices) (west_at bytes) (extensions_at bytes) (triangles_text width mesh) (edges_text width mesh) triangles edges)

  pub only : bytes ≡ tile_text header mesh
  unfolding tile_text
  only =
      let back = padding_text vertices ++ (triangles_text width mesh ++ edges_text width mesh) in
      let front = header_text header ++ little_bytes 4 vertices in
      let whole : bytes ≡ (front ++ (arrays_text mesh ++ back)) ++ drop (extensions_at bytes) bytes =
      both bytes 0 92 (extensions_at bytes) front (arrays_text mesh ++ back) head (both bytes 92 (92 + 6 * vertices) (extensions_at bytes) (arrays_text mesh) back arrays behind_vertices) in
      whole ∙ ap (λ l. (front ++ (arrays_text mesh ++ back)) ++ l) decodes.to_the_end ∙ append-nil (front ++ (arrays_text mesh ++ back))
      ∙ append_assoc (header_text header) (little_bytes 4 vertices) (arrays_text mesh ++ back)
      ∙ ap (λ n. header_text header ++ (little_bytes 4 n ++ (arrays_text mesh ++ (padding_text n ++ (triangles_text (index_width n) mesh ++ edges_text (index_width n) mesh))))) decodes.vertex_count

pub only_text : (bytes : List ℕ) (header : Header) (mesh : Mesh) → AreBytes bytes → Decodes bytes header mesh [] → HasZeroPadding bytes → bytes ≡ tile_text header mesh
only_text = only
