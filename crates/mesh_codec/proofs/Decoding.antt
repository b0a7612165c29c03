-- What gets no refusal decodes to what is read of it.
use Rattle.std.proofs.Common.{◌≡◌, ℕ, zero, suc, ℤ, pos, negsuc, ◌+ℤ◌, ◌+◌, ◌-◌, ◌*◌, ◌<◌, Bool, true, false, cond, nat_le, List, [], ◌∷◌, length, map, slice_index, Some, None, is_some, unwrap_or, All, refl, sym, ap, ◌∙◌, subst, arith}
use Rattle.std.specs.List.{range_with_len}
use Rattle.std.proofs.lemmas.List.FromFn.{length-map-range_with_len, get_or-map-range_with_len}
use Rattle.std.proofs.lemmas.Bool.Decides.{nat_tests}
use Rattle.terrain_base.specs.declared.indexes.Indexes.{Indexes}
use Rattle.mesh_codec.specs.declared.codes.Codes.{Codes}
use Rattle.mesh_codec.specs.declared.refusal.Array.{Array}
use Rattle.mesh_codec.specs.declared.refusal.Array.TheVariants.{U, V, Height}
use Rattle.terrain_base.specs.declared.side.Side.{Side}
use Rattle.terrain_base.specs.declared.side.Side.TheVariants.{West, South, East, North}
use Rattle.mesh_codec.specs.Number.{number_at, AreBytes}
use Rattle.mesh_codec.specs.Mesh.{IsMesh, IsVertex, IsTriangle, IsEdge, coordinate, edge_of}
use Rattle.terrain_base.specs.FirstUse.{corners}
use Rattle.mesh_codec.specs.Text.{index_width, index_data_at}
use Rattle.mesh_codec.specs.Difference.{difference_at, sum_before, running_value, to_code, code_at, HasCodes}
use Rattle.mesh_codec.specs.HighWater.{entry_at, mark_at, index_at, is_no_vertex, HasIndexes, HasEntries}
use Rattle.mesh_codec.specs.Layout.{vertices_in, triangles_in, array_at, extensions_at, edge_at}
use Rattle.mesh_codec.specs.Tile.{header_in, vertex_at, vertex_list, triangle_at, triangle_list, edge_list, extension_list, mesh_in, Decodes}
use Rattle.mesh_codec.specs.Good.{IsTile}
use Rattle.mesh_codec.proofs.Numbers.{number_small}
use Rattle.mesh_codec.proofs.Runs.{sum_next, sum_none}
use Rattle.mesh_codec.proofs.Sounds.{ArraySound, tile_sound}
use Rattle.mesh_codec.proofs.Places.{vertex_list_is, vertices_in_range, triangle_list_is, triangles_in_range, edge_list_is, edge_in_range, extensions_fit}
use Rattle.mesh_codec.proofs.ExtensionLaws.{extensions_text, are_extensions}

-- ---- an array
some_code : (z : ℤ) → is_some (to_code z) ≡ true → z ≡ pos (unwrap_or (to_code z) 0)
some_code (pos n) e = of_test (nat_le n 32767) n e
  where
    of_test : (b : Bool) (n : ℕ) → is_some (cond b (Some n) None) ≡ true → pos n ≡ pos (unwrap_or (cond b (Some n) None) 0)
    of_test true n e = refl
    of_test false n e = cc
some_code (negsuc n) e = cc

module _ (bytes : List ℕ) (at count : ℕ) (sound : ArraySound bytes at count) where
  running_code : (k : ℕ) → k < count → running_value bytes at k ≡ pos (code_at bytes at k)
  unfolding code_at
  running_code k h = some_code (running_value bytes at k) (sound.codes k h)

  code_in : (k : ℕ) → k < count → slice_index (map (code_at bytes at) (range_with_len 0 count)) k ≡ code_at bytes at k
  code_in k h = get_or-map-range_with_len (code_at bytes at) 0 count k k 0 h (omega arith)

  before_code : (k : ℕ) → k < count → sum_before bytes at k ≡ pos (slice_index (0 ∷ map (code_at bytes at) (range_with_len 0 count)) k)
  before_code zero h = sum_none bytes at
  before_code (suc k) h =
      let one : suc k ≡ k + 1 = omega arith in
      let early : k < count = omega arith in
      ap (sum_before bytes at) one ∙ sum_next bytes at k ∙ running_code k early ∙ ap pos (sym (code_in k early))

  pub has_codes : HasCodes bytes at (map (code_at bytes at) (range_with_len 0 count))
  unfolding running_value
  has_codes k h =
      let early : k < count = omega (arith, h, length-map-range_with_len (code_at bytes at) 0 count) in
      ap pos (code_in k early) ∙ sym (running_code k early) ∙ ap (λ z. z +ℤ difference_at bytes at k) (before_code k early)

same_maps : (g : Codes → ℕ) (f : ℕ → Codes) (xs : List ℕ) → map g (map f xs) ≡ map (λ k. g (f k)) xs
same_maps g f [] = refl
same_maps g f (x ∷ xs) = ap (λ l. g (f x) ∷ l) (same_maps g f xs)

-- the codes of an array, of the vertices
pub codes_list : (bytes : List ℕ) (array : Array) → map (coordinate array) (vertex_list bytes) ≡ map (code_at bytes (array_at (vertices_in bytes) array)) (range_with_len 0 (vertices_in bytes))
unfolding vertex_list
codes_list bytes U = same_maps (coordinate U) (vertex_at bytes (vertices_in bytes)) (range_with_len 0 (vertices_in bytes))
codes_list bytes V = same_maps (coordinate V) (vertex_at bytes (vertices_in bytes)) (range_with_len 0 (vertices_in bytes))
codes_list bytes Height = same_maps (coordinate Height) (vertex_at bytes (vertices_in bytes)) (range_with_len 0 (vertices_in bytes))

pub vertex_total : (bytes : List ℕ) → length (vertex_list bytes) ≡ vertices_in bytes
unfolding vertex_list
vertex_total bytes = length-map-range_with_len (vertex_at bytes (vertices_in bytes)) 0 (vertices_in bytes)

-- ---- the triangles
corners_from : (bytes : List ℕ) (vertices a n : ℕ) → corners (map (triangle_at bytes vertices) (range_with_len a n)) ≡ map (index_at (index_width vertices) bytes (index_data_at vertices + 4)) (range_with_len (3 * a) (3 * n))
corners_from bytes vertices a zero = refl
corners_from bytes vertices a (suc n) =
    let f = index_at (index_width vertices) bytes (index_data_at vertices + 4) in
    let three : 3 * suc n ≡ suc (suc (suc (3 * n))) = omega arith in
    let second : 3 * a + 1 + 1 ≡ 3 * a + 2 = omega arith in
    let third : 3 * a + 2 + 1 ≡ 3 * (a + 1) = omega arith in
    let later : map f (range_with_len (3 * a) (3 * suc n)) ≡ f (3 * a) ∷ f (3 * a + 1) ∷ f (3 * a + 2) ∷ map f (range_with_len (3 * (a + 1)) (3 * n)) =
    ap (λ m. map f (range_with_len (3 * a) m)) three ∙ ap (λ m. f (3 * a) ∷ f (3 * a + 1) ∷ f m ∷ map f (range_with_len (m + 1) (3 * n))) second
    ∙ ap (λ m. f (3 * a) ∷ f (3 * a + 1) ∷ f (3 * a + 2) ∷ map f (range_with_len m (3 * n))) third in
    ap (λ l. f (3 * a) ∷ f (3 * a + 1) ∷ f (3 * a + 2) ∷ l) (corners_from bytes vertices (a + 1) n) ∙ sym later

pub corners_list : (bytes : List ℕ) → corners (triangle_list bytes) ≡ map (index_at (index_width (vertices_in bytes)) bytes (index_data_at (vertices_in bytes) + 4)) (range_with_len 0 (3 * triangles_in bytes))
unfolding triangle_list
corners_list bytes = corners_from bytes (vertices_in bytes) 0 (triangles_in bytes)

pub triangle_total : (bytes : List ℕ) → length (triangle_list bytes) ≡ triangles_in bytes
unfolding triangle_list
triangle_total bytes = length-map-range_with_len (triangle_at bytes (vertices_in bytes)) 0 (triangles_in bytes)

has_indexes : (bytes : List ℕ) → IsTile bytes → HasIndexes (index_width (vertices_in bytes)) bytes (index_data_at (vertices_in bytes) + 4) (corners (triangle_list bytes))
unfolding index_at triangles_in
has_indexes bytes tile k h =
    let width = index_width (vertices_in bytes) in
    let at = index_data_at (vertices_in bytes) + 4 in
    let n = 3 * triangles_in bytes in
    let early : k < n = omega (arith, h, ap length (corners_list bytes), length-map-range_with_len (index_at width bytes at) 0 n) in
    let here : slice_index (corners (triangle_list bytes)) k ≡ index_at width bytes at k = ap (λ l. slice_index l k) (corners_list bytes) ∙ get_or-map-range_with_len (index_at width bytes at) 0 n k k 0 early (omega arith) in
    let vertex = (tile_sound bytes tile).triangles.indexes k early in
    ap (λ i. i + entry_at width bytes at k) here ∙ whole (mark_at width bytes at k) (entry_at width bytes at k) (vertices_in bytes) vertex
  where
    whole : (m n v : ℕ) → is_no_vertex v m n ≡ false → m - n + n ≡ m
    whole m n v e = grind (arith, nat_tests)

-- ---- the edges
pub edge_total : (bytes : List ℕ) (edge : Side) → length (edge_list bytes edge) ≡ number_at 4 bytes (edge_at bytes edge)
unfolding edge_list
edge_total bytes edge = length-map-range_with_len _ 0 (number_at 4 bytes (edge_at bytes edge))

has_entries : (bytes : List ℕ) (edge : Side) → HasEntries (index_width (vertices_in bytes)) bytes (edge_at bytes edge + 4) (edge_list bytes edge)
unfolding edge_list
has_entries bytes edge k h =
    let n = number_at 4 bytes (edge_at bytes edge) in
    let f = entry_at (index_width (vertices_in bytes)) bytes (edge_at bytes edge + 4) in
    get_or-map-range_with_len f 0 n k k 0 (omega (arith, h, length-map-range_with_len f 0 n)) (omega arith)

is_edge : (bytes : List ℕ) (edge : Side) → AreBytes bytes → IsTile bytes → IsEdge (length (vertex_list bytes)) (edge_list bytes edge)
is_edge bytes edge are tile = record {
  each = let P : List ℕ → Type 0 = All (λ vertex. vertex < length (vertex_list bytes)) in
      subst P (edge_list_is bytes edge (vertices_in bytes) (edge_at bytes edge) (number_at 4 bytes (edge_at bytes edge)) refl refl refl)
      (rw (vertex_total bytes) (edge_in_range bytes edge (vertices_in bytes) (edge_at bytes edge) (number_at 4 bytes (edge_at bytes edge)) tile refl refl refl));
  few = omega (arith, edge_total bytes edge, number_small 4 bytes (edge_at bytes edge) are);
}

pub edge_of_mesh : (bytes : List ℕ) (edge : Side) → edge_of (mesh_in bytes) edge ≡ edge_list bytes edge
unfolding mesh_in
edge_of_mesh bytes West = refl
edge_of_mesh bytes South = refl
edge_of_mesh bytes East = refl
edge_of_mesh bytes North = refl

mesh_sound : (bytes : List ℕ) → AreBytes bytes → IsTile bytes → IsMesh (mesh_in bytes)
unfolding mesh_in vertices_in triangles_in
mesh_sound bytes are tile = record {
  vertices = let P : List Codes → Type 0 = All IsVertex in subst P (vertex_list_is bytes (vertices_in bytes) refl) (vertices_in_range bytes (vertices_in bytes));
  few_vertices = omega (arith, vertex_total bytes, number_small 4 bytes 88 are);
  triangles = let P : List Indexes → Type 0 = All (IsTriangle (length (vertex_list bytes))) in
      subst P (triangle_list_is bytes (vertices_in bytes) (triangles_in bytes) refl refl) (rw (vertex_total bytes) (triangles_in_range bytes (vertices_in bytes) (triangles_in bytes) tile refl refl));
  few_triangles = omega (arith, triangle_total bytes, number_small 4 bytes (index_data_at (vertices_in bytes)) are);
  west = is_edge bytes West are tile;
  south = is_edge bytes South are tile;
  east = is_edge bytes East are tile;
  north = is_edge bytes North are tile;
}

pub decodes_by : (bytes : List ℕ) → AreBytes bytes → IsTile bytes → Decodes bytes (header_in bytes) (mesh_in bytes) (extension_list bytes)
unfolding mesh_in extension_list
decodes_by bytes are tile = record {
  header_is = refl;
  is_mesh = mesh_sound bytes are tile;
  vertex_count = sym (vertex_total bytes);
  codes = λ array. let P : List ℕ → Type 0 = HasCodes bytes (array_at (vertices_in bytes) array) in
      subst P (sym (codes_list bytes array)) (has_codes bytes (array_at (vertices_in bytes) array) (vertices_in bytes) ((tile_sound bytes tile).arrays array));
  triangle_count = sym (triangle_total bytes);
  indexes = has_indexes bytes tile;
  edge_counts = λ edge. sym (edge_total bytes edge) ∙ ap length (sym (edge_of_mesh bytes edge));
  edges = λ edge. let P : List ℕ → Type 0 = HasEntries (index_width (vertices_in bytes)) bytes (edge_at bytes edge + 4) in
      subst P (sym (edge_of_mesh bytes edge)) (has_entries bytes edge);
  long_enough = (extensions_fit bytes tile).within;
  to_the_end = extensions_text bytes (extensions_at bytes) are (extensions_fit bytes tile).fit;
  are_extensions = are_extensions bytes (extensions_at bytes) are (extensions_fit bytes tile).fit;
}
