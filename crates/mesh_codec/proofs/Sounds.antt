-- What holds of bytes that get no refusal, and the other way round.
use Rattle.std.proofs.Common.{◌≡◌, ℕ, ◌+◌, ◌-◌, ◌*◌, ◌<◌, ◌≤◌, Bool, true, false, not, cond, nat_lt, nat_le, List, length, map, Option, Some, None, is_some, refl, sym, ◌∙◌, arith}
use Rattle.std.specs.List.{range_with_len}
use Rattle.std.specs.Option.{option_map}
use Rattle.std.proofs.lemmas.Bool.Decides.{nat_tests}
use Rattle.common_laws.specs.First.{first_of}
use Rattle.common_laws.proofs.First.{neither, none_of_two, not_when, when_not, none_of_map, none_by_map}
use Rattle.mesh_codec.specs.declared.refusal.TileRefusal.{TileRefusal}
use Rattle.mesh_codec.specs.declared.refusal.TileRefusal.TheVariants.{Truncated, CoordinateOutOfRange, IndexOutOfRange, EdgeIndexTooLarge, Compressed}
use Rattle.mesh_codec.specs.declared.refusal.Array.{Array}
use Rattle.mesh_codec.specs.declared.refusal.Array.TheVariants.{U, V, Height}
use Rattle.terrain_base.specs.declared.side.Side.{Side}
use Rattle.terrain_base.specs.declared.side.Side.TheVariants.{West, South, East, North}
use Rattle.mesh_codec.specs.Number.{number_at}
use Rattle.mesh_codec.specs.Text.{index_width, index_data_at}
use Rattle.mesh_codec.specs.Difference.{running_value, to_code}
use Rattle.mesh_codec.specs.HighWater.{entry_at, mark_at, is_no_vertex}
use Rattle.mesh_codec.specs.Layout.{vertices_in, array_at, list_end, west_at, south_at, east_at, north_at, extensions_at, edge_at}
use Rattle.mesh_codec.specs.Refusal.{part_condition, code_condition, array_conditions, index_condition, triangle_conditions, entry_condition, edge_conditions, extension_conditions, conditions_of, is_gzip, tile_refusal_of}
use Rattle.mesh_codec.specs.Good.{IsTile}
use Rattle.mesh_codec.proofs.First.{vertex_first, all_first}
use Rattle.mesh_codec.proofs.Texts.{index_data_beyond}

-- an array fits, and each running value is a code
pub record ArraySound (bytes : List ℕ) (at count : ℕ) : Type 0 where
  pub fits : at + 2 * count ≤ length bytes
  pub codes : (k : ℕ) → k < count → is_some (to_code (running_value bytes at k)) ≡ true

-- the index data fit, and each index is a vertex
pub record TrianglesSound (bytes : List ℕ) (vertices at : ℕ) : Type 0 where
  pub fits : at + 4 + index_width vertices * (3 * number_at 4 bytes at) ≤ length bytes
  pub indexes : (k : ℕ) → k < 3 * number_at 4 bytes at → is_no_vertex vertices (mark_at (index_width vertices) bytes (at + 4) k) (entry_at (index_width vertices) bytes (at + 4) k) ≡ false

-- a list fits, and each entry is a vertex
pub record ListSound (bytes : List ℕ) (vertices at : ℕ) : Type 0 where
  pub fits : list_end (index_width vertices) bytes at ≤ length bytes
  pub entries : (k : ℕ) → k < number_at 4 bytes at → entry_at (index_width vertices) bytes (at + 4) k < vertices

pub record Sound (bytes : List ℕ) : Type 0 where
  pub counted : 92 ≤ length bytes
  pub arrays : (array : Array) → ArraySound bytes (array_at (vertices_in bytes) array) (vertices_in bytes)
  pub triangles : TrianglesSound bytes (vertices_in bytes) (index_data_at (vertices_in bytes))
  pub edges : (edge : Side) → ListSound bytes (vertices_in bytes) (edge_at bytes edge)
  pub extensions : first_of (extension_conditions bytes (extensions_at bytes)) ≡ None

-- ---- single conditions
not_lower : (m n : ℕ) → nat_lt m n ≡ false → n ≤ m
not_lower m n e = grind (arith, nat_tests)

lower_not : (m n : ℕ) → n ≤ m → nat_lt m n ≡ false
lower_not m n h = grind (arith, nat_tests)

not_reached : (m n : ℕ) → nat_le m n ≡ false → n < m
not_reached m n e = grind (arith, nat_tests)

reached_not : (m n : ℕ) → n < m → nat_le m n ≡ false
reached_not m n h = grind (arith, nat_tests)

not_true : (b : Bool) → not b ≡ false → b ≡ true
not_true true e = refl
not_true false e = cc

true_not : (b : Bool) → b ≡ true → not b ≡ false
true_not b e = rw e refl

part_fits : (bytes : List ℕ) (at need : ℕ) → part_condition bytes at need ≡ None → at + need ≤ length bytes
part_fits bytes at need e = not_lower (length bytes) (at + need) (not_when (Truncated at need) (nat_lt (length bytes) (at + need)) e)

fits_part : (bytes : List ℕ) (at need : ℕ) → at + need ≤ length bytes → part_condition bytes at need ≡ None
fits_part bytes at need h = when_not (Truncated at need) (nat_lt (length bytes) (at + need)) (lower_not (length bytes) (at + need) h)

-- ---- the parts, from no refusal
array_sound : (bytes : List ℕ) (array : Array) (at count : ℕ) → first_of (array_conditions bytes array at count) ≡ None → ArraySound bytes at count
unfolding array_conditions
array_sound bytes array at count e =
    let b = neither (part_condition bytes at (2 * count)) (first_of (map (code_condition bytes array at) (range_with_len 0 count))) e in
    record {
      fits = part_fits bytes at (2 * count) b.0;
      codes = λ k h. not_true _ (not_when (CoordinateOutOfRange array k) _ (none_of_map (code_condition bytes array at) count k b.1 h));
    }

sound_array : (bytes : List ℕ) (array : Array) (at count : ℕ) → ArraySound bytes at count → first_of (array_conditions bytes array at count) ≡ None
unfolding array_conditions
sound_array bytes array at count s = none_of_two _ _ (fits_part bytes at (2 * count) s.fits)
    (none_by_map (code_condition bytes array at) count (λ k h. when_not (CoordinateOutOfRange array k) _ (true_not _ (s.codes k h))))

triangles_sound : (bytes : List ℕ) (vertices at : ℕ) → first_of (triangle_conditions bytes vertices at) ≡ None → TrianglesSound bytes vertices at
unfolding triangle_conditions
triangles_sound bytes vertices at e =
    let codes = 3 * number_at 4 bytes at in
    let b = neither (part_condition bytes at 4) _ e in
    let c = neither (part_condition bytes (at + 4) (index_width vertices * codes)) _ b.1 in
    record {
      fits = part_fits bytes (at + 4) (index_width vertices * codes) c.0;
      indexes = λ k h. not_when (IndexOutOfRange k) _ (none_of_map (index_condition bytes vertices (at + 4)) codes k c.1 h);
    }

sound_triangles : (bytes : List ℕ) (vertices at : ℕ) → TrianglesSound bytes vertices at → first_of (triangle_conditions bytes vertices at) ≡ None
unfolding triangle_conditions
sound_triangles bytes vertices at s =
    let codes = 3 * number_at 4 bytes at in
    none_of_two _ _ (fits_part bytes at 4 (omega (arith, s.fits)))
    (none_of_two _ _ (fits_part bytes (at + 4) (index_width vertices * codes) s.fits)
    (none_by_map (index_condition bytes vertices (at + 4)) codes (λ k h. when_not (IndexOutOfRange k) _ (s.indexes k h))))

list_sound : (bytes : List ℕ) (vertices : ℕ) (edge : Side) (at : ℕ) → first_of (edge_conditions bytes vertices edge at) ≡ None → ListSound bytes vertices at
unfolding edge_conditions list_end
list_sound bytes vertices edge at e =
    let count = number_at 4 bytes at in
    let b = neither (part_condition bytes at 4) _ e in
    let c = neither (part_condition bytes (at + 4) (index_width vertices * count)) _ b.1 in
    record {
      fits = part_fits bytes (at + 4) (index_width vertices * count) c.0;
      entries = λ k h. not_reached vertices _ (not_when (EdgeIndexTooLarge edge k) _ (none_of_map (entry_condition bytes vertices edge (at + 4)) count k c.1 h));
    }

sound_list : (bytes : List ℕ) (vertices : ℕ) (edge : Side) (at : ℕ) → ListSound bytes vertices at → first_of (edge_conditions bytes vertices edge at) ≡ None
unfolding edge_conditions list_end
sound_list bytes vertices edge at s =
    let count = number_at 4 bytes at in
    none_of_two _ _ (fits_part bytes at 4 (omega (arith, s.fits)))
    (none_of_two _ _ (fits_part bytes (at + 4) (index_width vertices * count) s.fits)
    (none_by_map (entry_condition bytes vertices edge (at + 4)) count (λ k h. when_not (EdgeIndexTooLarge edge k) _ (reached_not vertices _ (s.entries k h)))))

-- ---- the whole
pub sound : (bytes : List ℕ) → first_of (conditions_of bytes) ≡ None → Sound bytes
sound bytes none =
    let vertices = vertices_in bytes in
    let e = sym (all_first bytes) ∙ none in
    let a = neither _ _ e in
    let b = neither _ _ a.1 in
    let arrays = neither _ _ b.1 in
    let us = neither _ _ (sym (vertex_first bytes vertices) ∙ arrays.0) in
    let vs = neither _ _ us.1 in
    let hs = neither _ _ vs.1 in
    let triangles = neither _ _ arrays.1 in
    let west = neither _ _ triangles.1 in
    let south = neither _ _ west.1 in
    let east = neither _ _ south.1 in
    let north = neither _ _ east.1 in
    record {
      counted = part_fits bytes 88 4 b.0;
      arrays = λ array. elim array as (λ array. ArraySound bytes (array_at vertices array) vertices) [
        | U ↦ array_sound bytes U 92 vertices us.0
        | V ↦ array_sound bytes V (92 + 2 * vertices) vertices vs.0
        | Height ↦ array_sound bytes Height (92 + 4 * vertices) vertices hs.0
      ];
      triangles = triangles_sound bytes vertices (index_data_at vertices) triangles.0;
      edges = λ edge. elim edge as (λ edge. ListSound bytes vertices (edge_at bytes edge)) [
        | West ↦ list_sound bytes vertices West (west_at bytes) west.0
        | South ↦ list_sound bytes vertices South (south_at bytes) south.0
        | East ↦ list_sound bytes vertices East (east_at bytes) east.0
        | North ↦ list_sound bytes vertices North (north_at bytes) north.0
      ];
      extensions = north.1;
    }

pub no_refusal : (bytes : List ℕ) → Sound bytes → first_of (conditions_of bytes) ≡ None
no_refusal bytes s =
    let vertices = vertices_in bytes in
    let beyond = index_data_beyond vertices in
    all_first bytes ∙ none_of_two _ _ (fits_part bytes 0 88 (omega (arith, s.counted))) (none_of_two _ _ (fits_part bytes 88 4 s.counted)
    (none_of_two _ _ (vertex_first bytes vertices ∙ none_of_two _ _ (sound_array bytes U 92 vertices (s.arrays U))
    (none_of_two _ _ (sound_array bytes V (92 + 2 * vertices) vertices (s.arrays V)) (none_of_two _ _ (sound_array bytes Height (92 + 4 * vertices) vertices (s.arrays Height))
    (fits_part bytes (92 + 6 * vertices) (index_data_at vertices - (92 + 6 * vertices)) (omega (arith, beyond.0, s.triangles.fits))))))
    (none_of_two _ _ (sound_triangles bytes vertices (index_data_at vertices) s.triangles)
    (none_of_two _ _ (sound_list bytes vertices West (west_at bytes) (s.edges West))
    (none_of_two _ _ (sound_list bytes vertices South (south_at bytes) (s.edges South))
    (none_of_two _ _ (sound_list bytes vertices East (east_at bytes) (s.edges East))
    (none_of_two _ _ (sound_list bytes vertices North (north_at bytes) (s.edges North)) s.extensions)))))))

-- gzip makes no tile of what is none
first_none : (b : Bool) (first : Option TileRefusal) → cond b (option_map (λ (refusal : TileRefusal). Compressed) first) first ≡ None → first ≡ None
first_none true None e = refl
first_none true (Some x) e = cc
first_none false first e = e

none_first : (b : Bool) (first : Option TileRefusal) → first ≡ None → cond b (option_map (λ (refusal : TileRefusal). Compressed) first) first ≡ None
none_first true first e = rw e refl
none_first false first e = e

pub tile_sound : (bytes : List ℕ) → IsTile bytes → Sound bytes
unfolding tile_refusal_of
tile_sound bytes tile = sound bytes (first_none (is_gzip bytes) (first_of (conditions_of bytes)) tile.accepted)

pub sound_tile : (bytes : List ℕ) → Sound bytes → IsTile bytes
unfolding tile_refusal_of
sound_tile bytes s = record { accepted = none_first (is_gzip bytes) (first_of (conditions_of bytes)) (no_refusal bytes s) }
