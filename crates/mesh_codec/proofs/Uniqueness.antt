-- What decodes gets no refusal, and decodes to nothing but what is read of it.
use Rattle.std.proofs.Common.{◌≡◌, ℕ, zero, suc, pos, ◌+ℤ◌, ◌+◌, ◌-◌, ◌*◌, ◌<◌, ◌≤◌, false, List, [], ◌∷◌, length, map, get_or, drop, slice_index, Some, is_some, unwrap_or, refl, sym, ap, ◌∙◌, arith}
use Rattle.std.proofs.lemmas.List.FromFn.{fill_by_all}
use Rattle.std.proofs.lemmas.List.{length-map, get_or-map}
use Rattle.std.proofs.lemmas.Bool.Decides.{nat_tests}
use Rattle.terrain_base.specs.declared.indexes.Indexes.{Indexes}
use Rattle.mesh_codec.specs.declared.header.Header.{Header}
use Rattle.mesh_codec.specs.declared.codes.Codes.{Codes}
use Rattle.mesh_codec.specs.declared.refusal.Array.{Array}
use Rattle.mesh_codec.specs.declared.refusal.Array.TheVariants.{U, V, Height}
use Rattle.terrain_base.specs.declared.side.Side.{Side}
use Rattle.terrain_base.specs.declared.side.Side.TheVariants.{West, South, East, North}
use Rattle.mesh_codec.specs.Number.{number_at}
use Rattle.mesh_codec.specs.Mesh.{Mesh, IsTriangle, IsEdge, coordinate, edge_of}
use Rattle.terrain_base.specs.FirstUse.{corners}
use Rattle.mesh_codec.specs.Text.{index_width, index_data_at}
use Rattle.mesh_codec.specs.Difference.{difference_at, sum_before, running_value, to_code, code_at, HasCodes}
use Rattle.mesh_codec.specs.HighWater.{entry_at, mark_at, index_at, is_no_vertex}
use Rattle.mesh_codec.specs.Extension.{ExtensionData}
use Rattle.mesh_codec.specs.Layout.{vertices_in, triangles_in, array_at, list_end, west_at, south_at, east_at, north_at, extensions_at, edge_at}
use Rattle.mesh_codec.specs.Tile.{vertex_at, vertex_list, triangle_list, edge_list, extension_list, mesh_in, Decodes}
use Rattle.mesh_codec.proofs.Runs.{sum_next, sum_none}
use Rattle.mesh_codec.proofs.Texts.{coordinate_small, index_data_beyond}
use Rattle.mesh_codec.proofs.Sounds.{Sound, ArraySound, TrianglesSound, ListSound}
use Rattle.mesh_codec.proofs.Decoding.{corners_list}
use Rattle.mesh_codec.proofs.ExtensionLaws.{only_extensions}

-- ---- an array
module _ (bytes : List ℕ) (at : ℕ) (codes : List ℕ) (has : HasCodes bytes at codes) where
  sum_is : (k : ℕ) → k ≤ length codes → sum_before bytes at k ≡ pos (slice_index (0 ∷ codes) k)
  unfolding running_value
  sum_is zero h = sum_none bytes at
  sum_is (suc k) h =
      let one : suc k ≡ k + 1 = omega arith in
      let early : k < length codes = omega arith in
      ap (sum_before bytes at) one ∙ sum_next bytes at k ∙ ap (λ z. z +ℤ difference_at bytes at k) (sum_is k (omega arith)) ∙ sym (has k early)

  value_is : (k : ℕ) → k < length codes → running_value bytes at k ≡ pos (slice_index codes k)
  unfolding running_value
  value_is k h = ap (λ z. z +ℤ difference_at bytes at k) (sum_is k (omega arith)) ∙ sym (has k h)

small_code : (n : ℕ) → n ≤ 32767 → to_code (pos n) ≡ Some n
small_code n h = grind (arith, nat_tests)

code_is : (bytes : List ℕ) (at k n : ℕ) → running_value bytes at k ≡ pos n → n ≤ 32767 → code_at bytes at k ≡ n
unfolding code_at
code_is bytes at k n e h = ap (λ z. unwrap_or (to_code z) 0) e ∙ ap (λ o. unwrap_or o 0) (small_code n h)

-- ---- corners
pub corners_length : (triangles : List Indexes) → length (corners triangles) ≡ 3 * length triangles
corners_length [] = refl
corners_length (t ∷ ts) = omega (arith, corners_length ts)

pub corners_small : (n : ℕ) (triangles : List Indexes) → ((k : ℕ) (d : Indexes) → k < length triangles → IsTriangle n (get_or triangles k d)) → (k : ℕ) → k < length (corners triangles) → get_or (corners triangles) k 0 < n
corners_small n [] all k h = absurd (omega arith)
corners_small n (t ∷ ts) all zero h = (all 0 t (omega arith)).a
corners_small n (t ∷ ts) all (suc zero) h = (all 0 t (omega arith)).b
corners_small n (t ∷ ts) all (suc (suc zero)) h = (all 0 t (omega arith)).c
corners_small n (t ∷ ts) all (suc (suc (suc k))) h = corners_small n ts (λ i d l. all (suc i) d (omega arith)) k (omega arith)

-- triangles are known by their corners
same_triangles : (ts us : List Indexes) → corners ts ≡ corners us → ts ≡ us
same_triangles [] [] e = refl
same_triangles [] (u ∷ us) e = absurd (omega (arith, ap length e))
same_triangles (t ∷ ts) [] e = absurd (omega (arith, ap length e))
same_triangles (t ∷ ts) (u ∷ us) e =
    let first : t.a ≡ u.a = ap (λ l. get_or l 0 0) e in
    let second : t.b ≡ u.b = ap (λ l. get_or l 1 0) e in
    let third : t.c ≡ u.c = ap (λ l. get_or l 2 0) e in
    let later : ts ≡ us = same_triangles ts us (ap (drop 3) e) in
    let same : t ≡ u = ap (λ a. record { a = a; b = t.b; c = t.c }) first ∙ ap (λ b. record { a = u.a; b = b; c = t.c }) second ∙ ap (λ c. record { a = u.a; b = u.b; c = c }) third in
    ap (λ x. x ∷ ts) same ∙ ap (λ l. u ∷ l) later

-- ---- offsets
list_beyond : (width : ℕ) (bytes : List ℕ) (at : ℕ) → at + 4 ≤ list_end width bytes at
unfolding list_end
list_beyond width bytes at = omega arith

record Offsets (bytes : List ℕ) : Type 0 where
  west : west_at bytes ≤ south_at bytes
  south : south_at bytes ≤ east_at bytes
  east : east_at bytes ≤ north_at bytes
  north : north_at bytes ≤ extensions_at bytes

offsets : (bytes : List ℕ) → Offsets bytes
unfolding south_at east_at north_at extensions_at
offsets bytes = let width = index_width (vertices_in bytes) in
    let w = list_beyond width bytes (west_at bytes) in
    let s = list_beyond width bytes (south_at bytes) in
    let e = list_beyond width bytes (east_at bytes) in
    let n = list_beyond width bytes (north_at bytes) in
    record { west = omega (arith, w); south = omega (arith, s); east = omega (arith, e); north = omega (arith, n) }

list_within : (bytes : List ℕ) (edge : Side) → extensions_at bytes ≤ length bytes → list_end (index_width (vertices_in bytes)) bytes (edge_at bytes edge) ≤ length bytes
unfolding south_at east_at north_at extensions_at
list_within bytes West h = let o = offsets bytes in omega (arith, o.south, o.east, o.north, h)
list_within bytes South h = let o = offsets bytes in omega (arith, o.east, o.north, h)
list_within bytes East h = let o = offsets bytes in omega (arith, o.north, h)
list_within bytes North h = h

index_data_fits : (bytes : List ℕ) → extensions_at bytes ≤ length bytes → index_data_at (vertices_in bytes) + 4 + index_width (vertices_in bytes) * (3 * number_at 4 bytes (index_data_at (vertices_in bytes))) ≤ length bytes
unfolding west_at triangles_in
index_data_fits bytes h = let o = offsets bytes in omega (arith, o.west, o.south, o.east, o.north, h)

array_within : (bytes : List ℕ) (array : Array) → extensions_at bytes ≤ length bytes → array_at (vertices_in bytes) array + 2 * vertices_in bytes ≤ length bytes
array_within bytes U h = omega (arith, (index_data_beyond (vertices_in bytes)).0, index_data_fits bytes h)
array_within bytes V h = omega (arith, (index_data_beyond (vertices_in bytes)).0, index_data_fits bytes h)
array_within bytes Height h = omega (arith, (index_data_beyond (vertices_in bytes)).0, index_data_fits bytes h)

-- ---- the whole
module _ (bytes : List ℕ) (header : Header) (mesh : Mesh) (extensions : List ExtensionData) (decodes : Decodes bytes header mesh extensions) where
  codes_total : (array : Array) → length (map (coordinate array) mesh.vertices) ≡ vertices_in bytes
  codes_total array = length-map mesh.vertices (coordinate array) ∙ sym decodes.vertex_count

  code_of_vertex : (array : Array) (k : ℕ) (d : Codes) → k < vertices_in bytes → slice_index (map (coordinate array) mesh.vertices) k ≡ coordinate array (get_or mesh.vertices k d)
  code_of_vertex array k d h = get_or-map (coordinate array) mesh.vertices k d 0 (omega (arith, h, decodes.vertex_count))

  code_fits : (array : Array) (k : ℕ) → k < vertices_in bytes → slice_index (map (coordinate array) mesh.vertices) k ≤ 32767
  code_fits array k h =
      let d : Codes = record { u = 0; v = 0; height = 0 } in
      let small = coordinate_small array (get_or mesh.vertices k d) (decodes.is_mesh.vertices k d (omega (arith, h, decodes.vertex_count))) in
      omega (arith, small, code_of_vertex array k d h)

  running : (array : Array) (k : ℕ) → k < vertices_in bytes → running_value bytes (array_at (vertices_in bytes) array) k ≡ pos (slice_index (map (coordinate array) mesh.vertices) k)
  running array k h = value_is bytes (array_at (vertices_in bytes) array) (map (coordinate array) mesh.vertices) (decodes.codes array) k (omega (arith, h, codes_total array))

  array_sound : (array : Array) → ArraySound bytes (array_at (vertices_in bytes) array) (vertices_in bytes)
  array_sound array = record {
    fits = array_within bytes array decodes.long_enough;
    codes = λ k h. ap (λ z. is_some (to_code z)) (running array k h) ∙ ap is_some (small_code (slice_index (map (coordinate array) mesh.vertices) k) (code_fits array k h));
  }

  corner_total : length (corners mesh.triangles) ≡ 3 * triangles_in bytes
  corner_total = omega (arith, corners_length mesh.triangles, decodes.triangle_count)

  no_vertex_not : (index m n v : ℕ) → index + n ≡ m → index < v → is_no_vertex v m n ≡ false
  no_vertex_not index m n v e h = grind (arith, nat_tests)

  triangles_sound : TrianglesSound bytes (vertices_in bytes) (index_data_at (vertices_in bytes))
  unfolding triangles_in
  triangles_sound = record {
    fits = index_data_fits bytes decodes.long_enough;
    indexes = λ k h.
        let early : k < length (corners mesh.triangles) = omega (arith, h, corner_total) in
        let small = corners_small (length mesh.vertices) mesh.triangles decodes.is_mesh.triangles k early in
        no_vertex_not (slice_index (corners mesh.triangles) k) _ _ (vertices_in bytes) (decodes.indexes k early) (omega (arith, small, decodes.vertex_count));
  }

  edge_is : (edge : Side) → IsEdge (length mesh.vertices) (edge_of mesh edge)
  edge_is West = decodes.is_mesh.west
  edge_is South = decodes.is_mesh.south
  edge_is East = decodes.is_mesh.east
  edge_is North = decodes.is_mesh.north

  list_sound : (edge : Side) → ListSound bytes (vertices_in bytes) (edge_at bytes edge)
  list_sound edge = record {
    fits = list_within bytes edge decodes.long_enough;
    entries = λ k h.
        let early : k < length (edge_of mesh edge) = omega (arith, h, decodes.edge_counts edge) in
        omega (arith, decodes.edges edge k early, (edge_is edge).each k 0 early, decodes.vertex_count);
  }

  pub sound_by : Sound bytes
  sound_by = record {
    counted = let o = array_within bytes U decodes.long_enough in omega (arith, o);
    arrays = array_sound;
    triangles = triangles_sound;
    edges = list_sound;
    extensions = (only_extensions bytes (extensions_at bytes) extensions decodes.to_the_end decodes.are_extensions).1;
  }

  same_vertices : mesh.vertices ≡ vertex_list bytes
  unfolding vertex_list
  same_vertices =
      let d : Codes = record { u = 0; v = 0; height = 0 } in
      let code : (array : Array) (k : ℕ) → k < vertices_in bytes → coordinate array (get_or mesh.vertices k d) ≡ code_at bytes (array_at (vertices_in bytes) array) k =
      λ array k h. sym (code_of_vertex array k d h) ∙ sym (code_is bytes (array_at (vertices_in bytes) array) k _ (running array k h) (code_fits array k h)) in
      fill_by_all (vertex_at bytes (vertices_in bytes)) mesh.vertices (vertices_in bytes) d (sym decodes.vertex_count) (λ k h.
      let vertex = get_or mesh.vertices k d in
      ap (λ u. record { u = u; v = vertex.v; height = vertex.height }) (code U k h)
      ∙ ap (λ v. record { u = code_at bytes (array_at (vertices_in bytes) U) k; v = v; height = vertex.height }) (code V k h)
      ∙ ap (λ height. record { u = code_at bytes (array_at (vertices_in bytes) U) k; v = code_at bytes (array_at (vertices_in bytes) V) k; height = height }) (code Height k h))

  less : (index m n : ℕ) → index + n ≡ m → index ≡ m - n
  less index m n e = omega arith

  same_triangle_list : mesh.triangles ≡ triangle_list bytes
  unfolding index_at
  same_triangle_list =
      let width = index_width (vertices_in bytes) in
      let at = index_data_at (vertices_in bytes) + 4 in
      same_triangles mesh.triangles (triangle_list bytes)
      (fill_by_all (index_at width bytes at) (corners mesh.triangles) (3 * triangles_in bytes) 0 corner_total
      (λ k h. less (slice_index (corners mesh.triangles) k) (mark_at width bytes at k) (entry_at width bytes at k) (decodes.indexes k (omega (arith, h, corner_total))))
      ∙ sym (corners_list bytes))

  same_edge : (edge : Side) → edge_of mesh edge ≡ edge_list bytes edge
  unfolding edge_list
  same_edge edge =
      fill_by_all (entry_at (index_width (vertices_in bytes)) bytes (edge_at bytes edge + 4)) (edge_of mesh edge) (number_at 4 bytes (edge_at bytes edge)) 0 (sym (decodes.edge_counts edge))
      (λ k h. decodes.edges edge k (omega (arith, h, decodes.edge_counts edge)))

  pub same_mesh : mesh ≡ mesh_in bytes
  unfolding mesh_in
  same_mesh =
      ap (λ l. record mesh { vertices = l }) same_vertices
      ∙ ap (λ l. record mesh { vertices = vertex_list bytes; triangles = l }) same_triangle_list
      ∙ ap (λ l. record mesh { vertices = vertex_list bytes; triangles = triangle_list bytes; west = l }) (same_edge West)
      ∙ ap (λ l. record mesh { vertices = vertex_list bytes; triangles = triangle_list bytes; west = edge_list bytes West; south = l }) (same_edge South)
      ∙ ap (λ l. record mesh { vertices = vertex_list bytes; triangles = triangle_list bytes; west = edge_list bytes West; south = edge_list bytes South; east = l }) (same_edge East)
      ∙ ap (λ l. record mesh { vertices = vertex_list bytes; triangles = triangle_list bytes; west = edge_list bytes West; south = edge_list bytes South; east = edge_list bytes East; north = l }) (same_edge North)

  pub same_extensions : extensions ≡ extension_list bytes
  unfolding extension_list
  same_extensions = (only_extensions bytes (extensions_at bytes) extensions decodes.to_the_end decodes.are_extensions).0
