-- The spelling of a header and a mesh, part by part.
use Rattle.std.proofs.Common.{◌≡◌, ◌≢◌, ℕ, ◌+◌, ◌-◌, ◌*◌, ◌^◌, ◌<◌, ◌≤◌, true, false, nat_lt, List, [], ◌∷◌, ◌++◌, length, map, drop, slice_index, All, inl, inr, refl, sym, ap, ◌∙◌, subst, arith, append_assoc}
use Rattle.std.specs.List.{flat_map}
use Rattle.std.proofs.lemmas.List.{length-append, length-drop, length-map, append-nil, get_or-drop, get_or-replicate, get_or_append_left}
use Rattle.std.proofs.lemmas.List.Elements.{All-nil, All-map, All-weaker}
use Rattle.std.proofs.lemmas.Bool.{cases_lt}
use Rattle.std.proofs.lemmas.Bool.Decides.{nat_tests}
use Rattle.byteorder.specs.Endian.{little_bytes}
use Rattle.mesh_codec.specs.declared.header.Header.{Header}
use Rattle.mesh_codec.specs.declared.refusal.Array.{Array}
use Rattle.mesh_codec.specs.declared.refusal.Array.TheVariants.{U, V, Height}
use Rattle.terrain_base.specs.declared.side.Side.{Side}
use Rattle.terrain_base.specs.declared.side.Side.TheVariants.{West, South, East, North}
use Rattle.mesh_codec.specs.Number.{number_at}
use Rattle.mesh_codec.specs.Mesh.{Mesh, IsMesh, IsEncodable, IsVertex, IsEdge, coordinate, edge_of}
use Rattle.terrain_base.specs.FirstUse.{corners}
use Rattle.mesh_codec.specs.Text.{IsPoint, IsHeader, point_text, header_text, array_text, index_width, index_data_at, padding_text, indexes_text, edge_text, tile_text}
use Rattle.mesh_codec.specs.Difference.{HasCodes}
use Rattle.mesh_codec.specs.HighWater.{HasIndexes, HasEntries}
use Rattle.mesh_codec.specs.Extension.{IsExtension}
use Rattle.mesh_codec.specs.Layout.{vertices_in, triangles_in, array_at, list_end, west_at, south_at, east_at, north_at, extensions_at, edge_at}
use Rattle.mesh_codec.specs.Padding.{HasZeroPadding}
use Rattle.mesh_codec.specs.Tile.{point_at, header_in, Decodes}
use Rattle.mesh_codec.proofs.Numbers.{number_here}
use Rattle.mesh_codec.proofs.Marks.{within_mark}
use Rattle.mesh_codec.proofs.Texts.{coordinate_small, padding_length, index_data_beyond}
use Rattle.mesh_codec.proofs.Uniqueness.{corners_length, corners_small}
use Rattle.mesh_codec.proofs.TextLaws.{behind, length-array_text, has_codes, length-indexes_text, has_indexes, length-entries_text, has_entries}

-- ---- the header
-- a point reads back, and what follows it stands behind it
point_back : (text : List ℕ) (at : ℕ) (point rest : List ℕ) → IsPoint point → drop at text ≡ point_text point ++ rest → (point_at text at ≡ point) × (drop (at + 24) text ≡ rest)
point_back text at [] rest h e = absurd (omega (arith, h.0))
point_back text at (a ∷ []) rest h e = absurd (omega (arith, h.0))
point_back text at (a ∷ b ∷ []) rest h e = absurd (omega (arith, h.0))
point_back text at (a ∷ b ∷ c ∷ d ∷ more) rest h e = absurd (omega (arith, h.0))
point_back text at (a ∷ b ∷ c ∷ []) rest h e =
    let first = number_here 8 text at a (little_bytes 8 b ++ (little_bytes 8 c ++ rest)) e (h.1 0 0 (omega (arith, h.0))) in
    let after_first = behind text at 8 (little_bytes 8 a) (little_bytes 8 b ++ (little_bytes 8 c ++ rest)) e refl in
    let second = number_here 8 text (at + 8) b (little_bytes 8 c ++ rest) after_first (h.1 1 0 (omega (arith, h.0))) in
    let after_second = behind text (at + 8) 8 (little_bytes 8 b) (little_bytes 8 c ++ rest) after_first refl in
    let sixteen : at + 8 + 8 ≡ at + 16 = omega arith in
    let at_third : drop (at + 16) text ≡ little_bytes 8 c ++ rest = sym (ap (λ n. drop n text) sixteen) ∙ after_second in
    let third = number_here 8 text (at + 16) c rest at_third (h.1 2 0 (omega (arith, h.0))) in
    let after_third = behind text (at + 16) 8 (little_bytes 8 c) rest at_third refl in
    let last : at + 16 + 8 ≡ at + 24 = omega arith in
    (rw (first, second, third) refl, sym (ap (λ n. drop n text) last) ∙ after_third)

pub header_back : (header : Header) (text rest : List ℕ) → IsHeader header → text ≡ header_text header ++ rest → (header_in text ≡ header) × (drop 88 text ≡ rest)
unfolding header_text header_in
header_back header text rest h e =
    let least = little_bytes 4 header.least in
    let greatest = little_bytes 4 header.greatest in
    let sphere = point_text header.sphere_centre in
    let radius = little_bytes 8 header.radius in
    let horizon = point_text header.horizon in
    let after_radius = horizon ++ rest in
    let after_sphere = radius ++ after_radius in
    let after_greatest = sphere ++ after_sphere in
    let after_least = greatest ++ after_greatest in
    let after_centre = least ++ after_least in
    let whole : drop 0 text ≡ point_text header.centre ++ after_centre = e ∙ simp append_assoc in
    let centre = point_back text 0 header.centre after_centre h.centre whole in
    let at_least : number_at 4 text 24 ≡ header.least =
    number_here 4 text 24 header.least after_least centre.1 h.least in
    let behind_least : drop 28 text ≡ after_least = behind text 24 4 least after_least centre.1 refl in
    let at_greatest : number_at 4 text 28 ≡ header.greatest =
    number_here 4 text 28 header.greatest after_greatest behind_least h.greatest in
    let behind_greatest : drop 32 text ≡ after_greatest = behind text 28 4 greatest after_greatest behind_least refl in
    let sphere_back = point_back text 32 header.sphere_centre after_sphere h.sphere_centre behind_greatest in
    let at_radius : number_at 8 text 56 ≡ header.radius =
    number_here 8 text 56 header.radius after_radius sphere_back.1 h.radius in
    let behind_radius : drop 64 text ≡ after_radius = behind text 56 8 radius after_radius sphere_back.1 refl in
    let horizon_back = point_back text 64 header.horizon rest h.horizon behind_radius in
    (rw (centre.0, at_least, at_greatest, sphere_back.0, at_radius, horizon_back.0) refl, horizon_back.1)

-- ---- the edges
-- a list reads back, and what follows it stands where it ends
list_back : (text : List ℕ) (width limit at : ℕ) (list rest : List ℕ) → limit ≤ 256 ^ width → IsEdge limit list → drop at text ≡ edge_text width list ++ rest
    → (number_at 4 text at ≡ length list) × HasEntries width text (at + 4) list × (drop (list_end width text at) text ≡ rest)
unfolding list_end
list_back text width limit at list rest f h e =
    let entries = flat_map (little_bytes width) list in
    let count = number_here 4 text at (length list) (entries ++ rest) e h.few in
    let inside = behind text at 4 (little_bytes 4 (length list)) (entries ++ rest) e refl in
    let end : at + 4 + width * number_at 4 text at ≡ at + 4 + width * length list = ap (λ n. at + 4 + width * n) count in (
      count,
      has_entries width limit list (at + 4) text rest f h.each inside,
      ap (λ n. drop n text) end ∙ behind text (at + 4) (width * length list) entries rest inside (length-entries_text width list),
    )

width_holds : (vertices : ℕ) → vertices < 2 ^ 32 → vertices ≢ 65536 → vertices < 256 ^ index_width vertices
unfolding index_width
width_holds vertices few apart = elim (cases_lt 65536 vertices) [
  | inl many ↦ let wide : nat_lt 65536 vertices ≡ true = grind (arith, nat_tests) in rw wide (omega arith)
  | inr less ↦ let narrow : nat_lt 65536 vertices ≡ false = grind (arith, nat_tests) in rw narrow (omega arith)
]

padding_zero : (vertices place : ℕ) → place < index_data_at vertices - (92 + 6 * vertices) → slice_index (padding_text vertices) place ≡ 0
unfolding padding_text
padding_zero vertices place h = get_or-replicate (index_data_at vertices - (92 + 6 * vertices)) place 0 0 h

-- ---- the whole
module _ (header : Header) (mesh : Mesh) (is_header : IsHeader header) (is_mesh : IsMesh mesh) (encodable : IsEncodable mesh) where
  abbrev vertices : ℕ
  vertices = length mesh.vertices

  abbrev width : ℕ
  width = index_width vertices

  abbrev codes : Array → List ℕ
  codes array = map (coordinate array) mesh.vertices

  -- what stands from each part on
  abbrev from_edges : List ℕ
  from_edges = edge_text width mesh.west ++ (edge_text width mesh.south ++ (edge_text width mesh.east ++ (edge_text width mesh.north ++ [])))

  abbrev from_codes : List ℕ
  from_codes = indexes_text width 0 (corners mesh.triangles) ++ from_edges

  abbrev from_triangles : List ℕ
  from_triangles = little_bytes 4 (length mesh.triangles) ++ from_codes

  abbrev from_padding : List ℕ
  from_padding = padding_text vertices ++ from_triangles

  abbrev from_heights : List ℕ
  from_heights = array_text 0 (codes Height) ++ from_padding

  abbrev from_vs : List ℕ
  from_vs = array_text 0 (codes V) ++ from_heights

  abbrev from_us : List ℕ
  from_us = array_text 0 (codes U) ++ from_vs

  abbrev from_count : List ℕ
  from_count = little_bytes 4 vertices ++ from_us

  parts : tile_text header mesh ≡ header_text header ++ from_count
  unfolding tile_text
  parts = simp (append_assoc, append-nil)

  all_small : (array : Array) → All (λ code. code ≤ 32767) (codes array)
  all_small array = All-map (λ code. code ≤ 32767) (coordinate array) mesh.vertices (All-weaker IsVertex (λ c. coordinate array c ≤ 32767) (λ c h. coordinate_small array c h) mesh.vertices is_mesh.vertices)

  array_length : (array : Array) → length (array_text 0 (codes array)) ≡ 2 * vertices
  array_length array = length-array_text (codes array) 0 ∙ ap (λ n. 2 * n) (length-map mesh.vertices (coordinate array))

  fits : vertices < 256 ^ width
  fits = width_holds vertices is_mesh.few_vertices encodable.reaches_back

  module _ (text : List ℕ) (is : text ≡ header_text header ++ from_count) where
    back : (header_in text ≡ header) × (drop 88 text ≡ from_count)
    back = header_back header text from_count is_header is

    counted : vertices_in text ≡ vertices
    unfolding vertices_in
    counted = number_here 4 text 88 vertices from_us back.1 is_mesh.few_vertices

    d_us : drop 92 text ≡ from_us
    d_us = behind text 88 4 (little_bytes 4 vertices) from_us back.1 refl

    d_vs : drop (92 + 2 * vertices) text ≡ from_vs
    d_vs = behind text 92 (2 * vertices) (array_text 0 (codes U)) from_vs d_us (array_length U)

    d_heights : drop (92 + 4 * vertices) text ≡ from_heights
    d_heights =
        let place : 92 + 2 * vertices + 2 * vertices ≡ 92 + 4 * vertices = omega arith in
        sym (ap (λ n. drop n text) place) ∙ behind text (92 + 2 * vertices) (2 * vertices) (array_text 0 (codes V)) from_heights d_vs (array_length V)

    d_padding : drop (92 + 6 * vertices) text ≡ from_padding
    d_padding =
        let place : 92 + 4 * vertices + 2 * vertices ≡ 92 + 6 * vertices = omega arith in
        sym (ap (λ n. drop n text) place) ∙ behind text (92 + 4 * vertices) (2 * vertices) (array_text 0 (codes Height)) from_padding d_heights (array_length Height)

    d_triangles : drop (index_data_at vertices) text ≡ from_triangles
    d_triangles =
        let place : 92 + 6 * vertices + (index_data_at vertices - (92 + 6 * vertices)) ≡ index_data_at vertices = omega (arith, (index_data_beyond vertices).0) in
        sym (ap (λ n. drop n text) place) ∙ behind text (92 + 6 * vertices) (index_data_at vertices - (92 + 6 * vertices)) (padding_text vertices) from_triangles d_padding (padding_length vertices)

    triangle_count : triangles_in text ≡ length mesh.triangles
    unfolding triangles_in
    triangle_count = ap (λ n. number_at 4 text (index_data_at n)) counted ∙ number_here 4 text (index_data_at vertices) (length mesh.triangles) from_codes d_triangles is_mesh.few_triangles

    d_codes : drop (index_data_at vertices + 4) text ≡ from_codes
    d_codes = behind text (index_data_at vertices) 4 (little_bytes 4 (length mesh.triangles)) from_codes d_triangles refl

    west_is : west_at text ≡ index_data_at vertices + 4 + width * length (corners mesh.triangles)
    unfolding west_at
    west_is = ap (λ n. index_data_at n + 4 + index_width n * (3 * triangles_in text)) counted
        ∙ ap (λ n. index_data_at vertices + 4 + width * n) (ap (λ n. 3 * n) triangle_count ∙ sym (corners_length mesh.triangles))

    d_west : drop (west_at text) text ≡ from_edges
    d_west = ap (λ n. drop n text) west_is
        ∙ behind text (index_data_at vertices + 4) (width * length (corners mesh.triangles)) (indexes_text width 0 (corners mesh.triangles)) from_edges d_codes (length-indexes_text width (corners mesh.triangles) 0)

    limit : vertices ≤ 256 ^ width
    limit = omega (arith, fits)

    west : (number_at 4 text (west_at text) ≡ length mesh.west) × HasEntries width text (west_at text + 4) mesh.west × (drop (list_end width text (west_at text)) text ≡ edge_text width mesh.south ++ (edge_text width mesh.east ++ (edge_text width mesh.north ++ [])))
    west = list_back text width vertices (west_at text) mesh.west (edge_text width mesh.south ++ (edge_text width mesh.east ++ (edge_text width mesh.north ++ []))) limit is_mesh.west d_west

    d_south : drop (south_at text) text ≡ edge_text width mesh.south ++ (edge_text width mesh.east ++ (edge_text width mesh.north ++ []))
    unfolding south_at
    d_south = ap (λ n. drop (list_end (index_width n) text (west_at text)) text) counted ∙ west.2

    south : (number_at 4 text (south_at text) ≡ length mesh.south) × HasEntries width text (south_at text + 4) mesh.south × (drop (list_end width text (south_at text)) text ≡ edge_text width mesh.east ++ (edge_text width mesh.north ++ []))
    south = list_back text width vertices (south_at text) mesh.south (edge_text width mesh.east ++ (edge_text width mesh.north ++ [])) limit is_mesh.south d_south

    d_east : drop (east_at text) text ≡ edge_text width mesh.east ++ (edge_text width mesh.north ++ [])
    unfolding east_at
    d_east = ap (λ n. drop (list_end (index_width n) text (south_at text)) text) counted ∙ south.2

    east : (number_at 4 text (east_at text) ≡ length mesh.east) × HasEntries width text (east_at text + 4) mesh.east × (drop (list_end width text (east_at text)) text ≡ edge_text width mesh.north ++ [])
    east = list_back text width vertices (east_at text) mesh.east (edge_text width mesh.north ++ []) limit is_mesh.east d_east

    d_north : drop (north_at text) text ≡ edge_text width mesh.north ++ []
    unfolding north_at
    d_north = ap (λ n. drop (list_end (index_width n) text (east_at text)) text) counted ∙ east.2

    north : (number_at 4 text (north_at text) ≡ length mesh.north) × HasEntries width text (north_at text + 4) mesh.north × (drop (list_end width text (north_at text)) text ≡ [])
    north = list_back text width vertices (north_at text) mesh.north [] limit is_mesh.north d_north

    d_end : drop (extensions_at text) text ≡ []
    unfolding extensions_at
    d_end = ap (λ n. drop (list_end (index_width n) text (north_at text)) text) counted ∙ north.2

    end_is : extensions_at text ≡ north_at text + 4 + width * length mesh.north
    unfolding extensions_at list_end
    end_is = ap (λ n. north_at text + 4 + index_width n * number_at 4 text (north_at text)) counted ∙ ap (λ n. north_at text + 4 + width * n) north.0

    ends_within : extensions_at text ≤ length text
    ends_within =
        omega (
          arith,
          end_is,
          ap length d_north,
          length-drop (north_at text) text,
          length-append (edge_text width mesh.north) [],
          length-append (little_bytes 4 (length mesh.north)) (flat_map (little_bytes width) mesh.north),
          length-entries_text width mesh.north,
        )

    codes_at : (array : Array) → HasCodes text (array_at vertices array) (codes array)
    codes_at U = has_codes (codes U) 92 text from_vs (all_small U) d_us
    codes_at V = has_codes (codes V) (92 + 2 * vertices) text from_heights (all_small V) d_vs
    codes_at Height = has_codes (codes Height) (92 + 4 * vertices) text from_padding (all_small Height) d_heights

    indexes_at : HasIndexes width text (index_data_at vertices + 4) (corners mesh.triangles)
    indexes_at = has_indexes width vertices (corners mesh.triangles) (index_data_at vertices + 4) text from_edges fits (corners_small vertices mesh.triangles is_mesh.triangles) (within_mark mesh encodable) d_codes

    counts_at : (edge : Side) → number_at 4 text (edge_at text edge) ≡ length (edge_of mesh edge)
    counts_at West = west.0
    counts_at South = south.0
    counts_at East = east.0
    counts_at North = north.0

    entries_at : (edge : Side) → HasEntries width text (edge_at text edge + 4) (edge_of mesh edge)
    entries_at West = west.1
    entries_at South = south.1
    entries_at East = east.1
    entries_at North = north.1

    zeros : HasZeroPadding text
    zeros place from to =
        let size = index_data_at vertices - (92 + 6 * vertices) in
        let start : 92 + 6 * vertices ≤ place = omega (arith, from, counted) in
        let end : place < index_data_at vertices = let P : ℕ → Type 0 = λ n. place < index_data_at n in subst P counted to in
        let depth = place - (92 + 6 * vertices) in
        let early : depth < size = omega (arith, start, end) in
        let whole : 92 + 6 * vertices + depth ≡ place = omega (arith, start) in
        sym (ap (slice_index text) whole) ∙ sym (get_or-drop (92 + 6 * vertices) text depth 0) ∙ ap (λ l. slice_index l depth) d_padding
        ∙ get_or_append_left (padding_text vertices) from_triangles 0 depth (omega (arith, early, padding_length vertices)) ∙ padding_zero vertices depth early

    decodes : Decodes text header mesh []
    decodes = record {
      header_is = back.0;
      is_mesh = is_mesh;
      vertex_count = counted;
      codes = λ array. rw counted (codes_at array);
      triangle_count = triangle_count;
      indexes = rw counted indexes_at;
      edge_counts = counts_at;
      edges = λ edge. rw counted (entries_at edge);
      long_enough = ends_within;
      to_the_end = d_end;
      are_extensions = All-nil IsExtension;
    }

pub text_decodes : (header : Header) (mesh : Mesh) → IsHeader header → IsMesh mesh → IsEncodable mesh → Decodes (tile_text header mesh) header mesh []
text_decodes header mesh is_header is_mesh encodable =
    decodes header mesh is_header is_mesh encodable (tile_text header mesh) (parts header mesh is_header is_mesh encodable)

pub text_padding : (header : Header) (mesh : Mesh) → IsHeader header → IsMesh mesh → IsEncodable mesh → HasZeroPadding (tile_text header mesh)
text_padding header mesh is_header is_mesh encodable =
    zeros header mesh is_header is_mesh encodable (tile_text header mesh) (parts header mesh is_header is_mesh encodable)
