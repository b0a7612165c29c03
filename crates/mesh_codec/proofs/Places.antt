-- Where the parts of a tile lie, and what is read there.
use Rattle.std.proofs.Common.{◌≡◌, ℕ, ℤ, pos, negsuc, ◌+ℤ◌, ◌+◌, ◌-◌, ◌*◌, ◌<◌, ◌≤◌, ◌==◌, Bool, true, false, cond, List, ◌∷◌, length, map, nat_le, Some, None, is_some, unwrap_or, All, refl, sym, ap, ◌∙◌, arith}
use Rattle.std.specs.List.{range_with_len}
use Rattle.std.proofs.Math.Nat.{mul-le-mul_left}
use Rattle.std.proofs.lemmas.Bool.Decides.{nat_tests}
use Rattle.common_laws.proofs.Lists.{range_next}
use Rattle.mesh_codec.specs.declared.refusal.Array.{Array}
use Rattle.mesh_codec.specs.declared.refusal.Array.TheVariants.{U, V, Height}
use Rattle.terrain_base.specs.declared.side.Side.{Side}
use Rattle.terrain_base.specs.declared.side.Side.TheVariants.{West, South, East, North}
use Rattle.mesh_codec.specs.Number.{number_at}
use Rattle.mesh_codec.specs.Text.{index_width, index_data_at}
use Rattle.mesh_codec.specs.Difference.{difference_at, running_value, to_code, code_at}
use Rattle.mesh_codec.specs.HighWater.{entry_at, mark_at, index_at, is_no_vertex}
use Rattle.mesh_codec.specs.Layout.{vertices_in, triangles_in, array_at, list_end, west_at, south_at, east_at, north_at, extensions_at, edge_at}
use Rattle.mesh_codec.specs.Tile.{vertex_at, triangle_at, vertex_list, triangle_list, edge_list}
use Rattle.mesh_codec.specs.Good.{IsTile, IsReadTo, IsMarkedTo, IsListRead, AreExtensions}
use Rattle.mesh_codec.specs.Mesh.{IsVertex, IsTriangle}
use Rattle.mesh_codec.proofs.Lists.{each_of}
use Rattle.mesh_codec.proofs.Runs.{sum_next, code_is, running_is}
use Rattle.mesh_codec.proofs.HighWaters.{mark_next}
use Rattle.mesh_codec.proofs.Sounds.{tile_sound}

pub counted : (bytes : List ℕ) → IsTile bytes → 92 ≤ length bytes
counted bytes tile = (tile_sound bytes tile).counted

pub triangles_counted : (bytes : List ℕ) → IsTile bytes → index_data_at (vertices_in bytes) + 4 ≤ length bytes
triangles_counted bytes tile = omega (arith, (tile_sound bytes tile).triangles.fits)

pub list_fits : (bytes : List ℕ) (edge : Side) → IsTile bytes → list_end (index_width (vertices_in bytes)) bytes (edge_at bytes edge) ≤ length bytes
list_fits bytes edge tile = ((tile_sound bytes tile).edges edge).fits

pub west_fits : (bytes : List ℕ) → IsTile bytes → list_end (index_width (vertices_in bytes)) bytes (west_at bytes) ≤ length bytes
west_fits bytes tile = list_fits bytes West tile

pub south_fits : (bytes : List ℕ) → IsTile bytes → list_end (index_width (vertices_in bytes)) bytes (south_at bytes) ≤ length bytes
south_fits bytes tile = list_fits bytes South tile

pub east_fits : (bytes : List ℕ) → IsTile bytes → list_end (index_width (vertices_in bytes)) bytes (east_at bytes) ≤ length bytes
east_fits bytes tile = list_fits bytes East tile

pub north_fits : (bytes : List ℕ) → IsTile bytes → list_end (index_width (vertices_in bytes)) bytes (north_at bytes) ≤ length bytes
north_fits bytes tile = list_fits bytes North tile

-- ---- a code of an array
module _ (bytes : List ℕ) (vertices k code : ℕ) (array : Array) (tile : IsTile bytes) (count : vertices ≡ vertices_in bytes) (h : k < vertices) (read : IsReadTo bytes (array_at vertices array) k code) where
  pub code_fits : array_at vertices array + 2 * k + 2 ≤ length bytes
  code_fits =
      let fits : array_at vertices array + 2 * vertices ≤ length bytes = rw count ((tile_sound bytes tile).arrays array).fits in
      omega (arith, fits, h)

  value_is : running_value bytes (array_at vertices array) k ≡ pos code +ℤ difference_at bytes (array_at vertices array) k
  value_is = running_is bytes (array_at vertices array) k code read.sum

  pub code_some : is_some (to_code (pos code +ℤ difference_at bytes (array_at vertices array) k)) ≡ true
  code_some =
      let here : k < vertices_in bytes = omega (arith, count, h) in
      let some = ((tile_sound bytes tile).arrays array).codes k here in
      ap (λ z. is_some (to_code z)) (sym value_is) ∙ rw count some

  module _ (next : ℕ) (is : to_code (pos code +ℤ difference_at bytes (array_at vertices array) k) ≡ Some next) where
    pub code_here : next ≡ code_at bytes (array_at vertices array) k
    unfolding code_at
    code_here = sym (ap (λ z. unwrap_or (to_code z) 0) value_is ∙ ap (λ o. unwrap_or o 0) is)

    small_code : (z : ℤ) (n : ℕ) → to_code z ≡ Some n → n ≤ 32767
    small_code (pos m) n e = grind (arith, nat_tests)
    small_code (negsuc m) n e = cc

    pub read_next : IsReadTo bytes (array_at vertices array) (k + 1) next
    read_next = record {
      sum = sum_next bytes (array_at vertices array) k ∙ value_is ∙ code_is (pos code +ℤ difference_at bytes (array_at vertices array) k) next is;
      small = small_code (pos code +ℤ difference_at bytes (array_at vertices array) k) next is;
    }

-- one vertex more
pub vertices_step : (bytes : List ℕ) (vertices k u v height : ℕ) → k < vertices → u ≡ code_at bytes (array_at vertices U) k → v ≡ code_at bytes (array_at vertices V) k → height ≡ code_at bytes (array_at vertices Height) k
    → map (vertex_at bytes vertices) (range_with_len k (vertices - k)) ≡ record { u = u; v = v; height = height } ∷ map (vertex_at bytes vertices) (range_with_len (k + 1) (vertices - (k + 1)))
vertices_step bytes vertices k u v height h p q r = rw (range_next k vertices h, p, q, r) refl

-- ---- a corner of a triangle
module _ (bytes : List ℕ) (vertices k mark : ℕ) (tile : IsTile bytes) (count : vertices ≡ vertices_in bytes) (h : k < 3 * triangles_in bytes) (read : IsMarkedTo bytes vertices k mark) where
  pub corner_fits : index_data_at vertices + 4 + index_width vertices * k + index_width vertices ≤ length bytes
  unfolding triangles_in
  corner_fits =
      let fits : index_data_at vertices + 4 + index_width vertices * (3 * number_at 4 bytes (index_data_at vertices)) ≤ length bytes = rw count (tile_sound bytes tile).triangles.fits in
      let more : k + 1 ≤ 3 * number_at 4 bytes (index_data_at vertices) = rw count (omega arith) in
      omega (arith, fits, mul-le-mul_left (index_width vertices) more)

  vertex_here : is_no_vertex vertices mark (entry_at (index_width vertices) bytes (index_data_at vertices + 4) k) ≡ false
  unfolding triangles_in
  vertex_here = rw (← read.mark_is, count) ((tile_sound bytes tile).triangles.indexes k h)

  both_false : (m n v : ℕ) → is_no_vertex v m n ≡ false → (n ≤ m) × (m - n < v)
  both_false m n v e = grind (arith, nat_tests)

  pub corner_within : (entry_at (index_width vertices) bytes (index_data_at vertices + 4) k ≤ mark) × (mark - entry_at (index_width vertices) bytes (index_data_at vertices + 4) k < vertices)
  corner_within = both_false mark (entry_at (index_width vertices) bytes (index_data_at vertices + 4) k) vertices vertex_here

  pub corner_here : (index code : ℕ) → code ≡ entry_at (index_width vertices) bytes (index_data_at vertices + 4) k → index ≡ mark - code → index ≡ index_at (index_width vertices) bytes (index_data_at vertices + 4) k
  unfolding index_at
  corner_here index code e i = i ∙ rw (e, read.mark_is) refl

  pub marked_next : (code next : ℕ) → code ≡ entry_at (index_width vertices) bytes (index_data_at vertices + 4) k → next ≡ cond (code == 0) (mark + 1) mark → IsMarkedTo bytes vertices (k + 1) next
  marked_next code next e n = record {
    mark_is = mark_next (index_width vertices) bytes (index_data_at vertices + 4) k ∙ rw (← e, read.mark_is) (sym n);
    few = few_next code next mark vertices (rw (← e) at corner_within.1) read.few n;
  }
    where
      few_next : (code next mark vertices : ℕ) → mark - code < vertices → mark ≤ vertices → next ≡ cond (code == 0) (mark + 1) mark → next ≤ vertices
      few_next code next mark vertices l m e = grind (arith, nat_tests)

-- one triangle more
pub triangles_step : (bytes : List ℕ) (vertices triangles k a b c : ℕ) → k < triangles
    → a ≡ index_at (index_width vertices) bytes (index_data_at vertices + 4) (3 * k) → b ≡ index_at (index_width vertices) bytes (index_data_at vertices + 4) (3 * k + 1) → c ≡ index_at (index_width vertices) bytes (index_data_at vertices + 4) (3 * k + 2)
    → map (triangle_at bytes vertices) (range_with_len k (triangles - k)) ≡ record { a = a; b = b; c = c } ∷ map (triangle_at bytes vertices) (range_with_len (k + 1) (triangles - (k + 1)))
triangles_step bytes vertices triangles k a b c h p q r = rw (range_next k triangles h, p, q, r) refl

-- ---- whole lists
pub vertex_list_is : (bytes : List ℕ) (vertices : ℕ) → vertices ≡ vertices_in bytes → map (vertex_at bytes vertices) (range_with_len 0 (vertices - 0)) ≡ vertex_list bytes
unfolding vertex_list
vertex_list_is bytes vertices e = let all : vertices - 0 ≡ vertices = omega arith in rw (all, e) refl

pub triangle_list_is : (bytes : List ℕ) (vertices triangles : ℕ) → vertices ≡ vertices_in bytes → triangles ≡ triangles_in bytes → map (triangle_at bytes vertices) (range_with_len 0 (triangles - 0)) ≡ triangle_list bytes
unfolding triangle_list
triangle_list_is bytes vertices triangles e n = let all : triangles - 0 ≡ triangles = omega arith in rw (all, e, n) refl

pub edge_list_is : (bytes : List ℕ) (edge : Side) (vertices start count : ℕ) → vertices ≡ vertices_in bytes → start ≡ edge_at bytes edge → count ≡ number_at 4 bytes start
    → map (entry_at (index_width vertices) bytes (start + 4)) (range_with_len 0 (count - 0)) ≡ edge_list bytes edge
unfolding edge_list
edge_list_is bytes edge vertices start count e s n = let all : count - 0 ≡ count = omega arith in rw (all, n, s, e) refl

code_small : (bytes : List ℕ) (at k : ℕ) → code_at bytes at k ≤ 32767
unfolding code_at
code_small bytes at k = of_code (running_value bytes at k)
  where
    of_code : (z : ℤ) → unwrap_or (to_code z) 0 ≤ 32767
    of_code (pos n) = of_test (nat_le n 32767) n (λ e. grind (arith, nat_tests))
      where
        of_test : (b : Bool) (n : ℕ) → (b ≡ true → n ≤ 32767) → unwrap_or (cond b (Some n) None) 0 ≤ 32767
        of_test true n h = h refl
        of_test false n h = omega arith
    of_code (negsuc n) = omega arith

pub vertices_in_range : (bytes : List ℕ) (vertices : ℕ) → All IsVertex (map (vertex_at bytes vertices) (range_with_len 0 (vertices - 0)))
vertices_in_range bytes vertices = each_of IsVertex (vertex_at bytes vertices) (vertices - 0) (λ k h. record {
  u = code_small bytes (array_at vertices U) k;
  v = code_small bytes (array_at vertices V) k;
  height = code_small bytes (array_at vertices Height) k;
})

index_small : (bytes : List ℕ) (vertices k : ℕ) → IsTile bytes → vertices ≡ vertices_in bytes → k < 3 * triangles_in bytes → index_at (index_width vertices) bytes (index_data_at vertices + 4) k < vertices
unfolding index_at triangles_in
index_small bytes vertices k tile e h =
    of_test (mark_at (index_width vertices) bytes (index_data_at vertices + 4) k) (entry_at (index_width vertices) bytes (index_data_at vertices + 4) k) vertices (rw e ((tile_sound bytes tile).triangles.indexes k h))
  where
    of_test : (m n v : ℕ) → is_no_vertex v m n ≡ false → m - n < v
    of_test m n v e = grind (arith, nat_tests)

pub triangles_in_range : (bytes : List ℕ) (vertices triangles : ℕ) → IsTile bytes → vertices ≡ vertices_in bytes → triangles ≡ triangles_in bytes
    → All (IsTriangle (vertices_in bytes)) (map (triangle_at bytes vertices) (range_with_len 0 (triangles - 0)))
triangles_in_range bytes vertices triangles tile e n = each_of (IsTriangle (vertices_in bytes)) (triangle_at bytes vertices) (triangles - 0) (λ k h. record {
  a = small (3 * k) (omega (arith, h, n));
  b = small (3 * k + 1) (omega (arith, h, n));
  c = small (3 * k + 2) (omega (arith, h, n));
})
  where
    small : (k : ℕ) → k < 3 * triangles_in bytes → index_at (index_width vertices) bytes (index_data_at vertices + 4) k < vertices_in bytes
    small k h = omega (arith, e, index_small bytes vertices k tile e h)

-- ---- an edge's list
pub edge_counted : (bytes : List ℕ) (edge : Side) → IsTile bytes → edge_at bytes edge + 4 ≤ length bytes
unfolding list_end
edge_counted bytes edge tile = omega (arith, list_fits bytes edge tile)

pub edge_read : (bytes : List ℕ) (edge : Side) (vertices start count : ℕ) → IsTile bytes → vertices ≡ vertices_in bytes → start ≡ edge_at bytes edge → count ≡ number_at 4 bytes start → IsListRead bytes vertices (start + 4) count 0
unfolding list_end
edge_read bytes edge vertices start count tile e s n = record { fits = rw (n, s, e) (list_fits bytes edge tile); within = omega arith }

pub edge_in_range : (bytes : List ℕ) (edge : Side) (vertices start count : ℕ) → IsTile bytes → vertices ≡ vertices_in bytes → start ≡ edge_at bytes edge → count ≡ number_at 4 bytes start
    → All (λ vertex. vertex < vertices_in bytes) (map (entry_at (index_width vertices) bytes (start + 4)) (range_with_len 0 (count - 0)))
edge_in_range bytes edge vertices start count tile e s n = each_of (λ vertex. vertex < vertices_in bytes) (entry_at (index_width vertices) bytes (start + 4)) (count - 0)
    (λ k h. rw (s, e) (((tile_sound bytes tile).edges edge).entries k (rw (← s, ← n) (omega (arith, h)))))

pub entries_step : (bytes : List ℕ) (vertices at count k index : ℕ) → k < count → index ≡ entry_at (index_width vertices) bytes at k
    → map (entry_at (index_width vertices) bytes at) (range_with_len k (count - k)) ≡ index ∷ map (entry_at (index_width vertices) bytes at) (range_with_len (k + 1) (count - (k + 1)))
entries_step bytes vertices at count k index h e = rw (range_next k count h, e) refl

-- ---- the extensions
pub extensions_fit : (bytes : List ℕ) → IsTile bytes → AreExtensions bytes (extensions_at bytes)
unfolding extensions_at
extensions_fit bytes tile = record { within = north_fits bytes tile; fit = (tile_sound bytes tile).extensions }
