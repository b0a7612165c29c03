-- The list of all tiles has each tile of its levels, in order.
use Rattle.std.specs.Prelude.{◌≡◌, ℕ, zero, suc, ◌+◌, ◌*◌, ◌^◌, ◌<◌, ◌≤◌, nat_lt, nat_le, Bool, true, false, List, [], ◌++◌, flat_map, Option, Some, None}
use Rattle.std.specs.List.{range_with_len, Contains, cons_option}
use Rattle.std.proofs.Common.{arith, refl, sym, ap, subst, ◌∙◌, inl, inr}
use Rattle.std.proofs.Math.Pow.{pow_mono}
use Rattle.std.proofs.lemmas.Bool.{le-leb, lt-ltb, lt-leb, both_ways, cases_lt}
use Rattle.std.proofs.lemmas.List.Elements.{All-contains}
use Rattle.terrain_base.specs.declared.tile.TileId.{TileId}
use Rattle.terrain_base.proofs.TileNumbers.{same_tile}
use Rattle.availability.specs.Existence.{is_tile}
use Rattle.tile_deps.specs.Tiles.{where_true, tile_at, row_tiles, level_tiles, all_tiles}
use Rattle.tile_deps.specs.Walk.{number_of}
use Rattle.tile_deps.proofs.Listed.{flat_there, mapped_there}
use Rattle.tile_deps.proofs.Rising.{Rises, all_below, all_rise, from_lower, to_higher}

-- ---- the tile of three numbers

-- what comes of a test has what comes of it either way
of_test : {X : Type 0} (P : Option X → Type 0) (b : Bool) (f : b ≡ true → Option X) → ((h : b ≡ true) → P (f h)) → (b ≡ false → P None) → P (where_true b f)
unfolding where_true
of_test P true f passes fails = passes refl
of_test P false f passes fails = fails refl

pub tile_found : (t : TileId) → tile_at t.z t.y t.x ≡ Some t
unfolding tile_at
tile_found t =
    of_test (λ o. o ≡ Some t) (nat_le t.z 14) _
    (λ level. of_test (λ o. o ≡ Some t) (nat_lt t.y (2 ^ t.z)) _
    (λ row. of_test (λ o. o ≡ Some t) (nat_lt t.x (2 ^ (t.z + 1))) _ (λ column. ap Some (same_tile _ t refl refl refl))
    (λ fails. absurd (both_ways (nat_lt t.x (2 ^ (t.z + 1))) fails (lt-ltb _ _ t.x_in_range))))
    (λ fails. absurd (both_ways (nat_lt t.y (2 ^ t.z)) fails (lt-ltb _ _ t.y_in_range))))
    (λ fails. absurd (both_ways (nat_le t.z 14) fails (le-leb _ _ t.z_in_range)))

-- a tile that comes of three numbers has them
pub record HasNumbers (z row column : ℕ) (t : TileId) : Type 0 where
  pub z_is : t.z ≡ z
  pub y_is : t.y ≡ row
  pub x_is : t.x ≡ column

abbrev pub MayHaveNumbers : ℕ → ℕ → ℕ → Option TileId → Type 0
MayHaveNumbers z row column None = is_tile z row column ≡ false
MayHaveNumbers z row column (Some t) = HasNumbers z row column t

pub numbers_of : (z row column : ℕ) → MayHaveNumbers z row column (tile_at z row column)
unfolding tile_at
numbers_of z row column =
    of_test (MayHaveNumbers z row column) (nat_le z 14) _
    (λ level. of_test (MayHaveNumbers z row column) (nat_lt row (2 ^ z)) _
    (λ south. of_test (MayHaveNumbers z row column) (nat_lt column (2 ^ (z + 1))) _ (λ west. record { z_is = refl; y_is = refl; x_is = refl })
    (λ fails. rw (level, south, fails) refl))
    (λ fails. rw (level, fails) refl))
    (λ fails. rw fails refl)

pub none_above : (z row column : ℕ) → 14 < z → tile_at z row column ≡ None
unfolding tile_at
none_above z row column h =
    of_test (λ (o : Option TileId). o ≡ None) (nat_le z 14) _ (λ level. absurd (both_ways (nat_le z 14) (lt-leb z 14 h) level)) (λ fails. refl)

-- ---- each is there

pub all_there : (cap : ℕ) (t : TileId) → t.z ≤ cap → Contains (all_tiles cap) t
unfolding all_tiles
all_there cap t le =
    flat_there level_tiles 0 (cap + 1) t.z t (omega arith) (omega (arith, le))
    (flat_there (λ row. row_tiles t.z row 0 (2 ^ (t.z + 1))) 0 (2 ^ t.z) t.y t (omega arith) (omega (arith, t.y_in_range))
    (mapped_there (tile_at t.z t.y) 0 (2 ^ (t.z + 1)) t.x t (omega arith) (omega (arith, t.x_in_range)) (tile_found t)))

-- ---- and they rise

option_rises : (z row column high : ℕ) (o : Option TileId) (ts : List TileId) → MayHaveNumbers z row column o → Rises (536870912 * z + (32768 * row + (column + 1))) high ts
    → Rises (536870912 * z + (32768 * row + column)) high (cons_option o ts)
option_rises z row column high None ts h rest = from_lower _ _ high ts (omega arith) rest
option_rises z row column high (Some t) ts h rest =
    let e = h.z_is in
    let f = h.y_is in
    let g = h.x_is in
    (omega (arith, e, f, g), from_lower (536870912 * z + (32768 * row + (column + 1))) (number_of t + 1) high ts (omega (arith, e, f, g)) rest)

row_rises : (z row column count : ℕ) → Rises (536870912 * z + (32768 * row + column)) (536870912 * z + (32768 * row + (column + count))) (row_tiles z row column count)
row_rises z row column zero = omega arith
row_rises z row column (suc count) =
    let same : column + suc count ≡ column + 1 + count = omega arith in
    rw same (option_rises z row column _ (tile_at z row column) (row_tiles z row (column + 1) count) (numbers_of z row column) (row_rises z row (column + 1) count))

no_row : (z row column count : ℕ) → 14 < z → row_tiles z row column count ≡ []
no_row z row column zero h = refl
no_row z row column (suc count) h = ap (λ o. cons_option o (row_tiles z row (column + 1) count)) (none_above z row column h) ∙ no_row z row (column + 1) count h

whole_row_rises : (z row : ℕ) → Rises (536870912 * z + 32768 * row) (536870912 * z + 32768 * (row + 1)) (row_tiles z row 0 (2 ^ (z + 1)))
whole_row_rises z row =
    elim (cases_lt 14 z) [
      | inl above ↦ subst (Rises (536870912 * z + 32768 * row) (536870912 * z + 32768 * (row + 1))) (sym (no_row z row 0 (2 ^ (z + 1)) above)) (omega arith)
      | inr within ↦
          let le : z + 1 ≤ 15 = omega (arith, within) in
          let columns : 2 ^ (z + 1) ≤ 2 ^ 15 = pow_mono le in
          from_lower (536870912 * z + (32768 * row + 0)) _ _ _ (omega arith)
          (to_higher _ (536870912 * z + (32768 * row + (0 + 2 ^ (z + 1)))) _ _ (omega (arith, columns)) (row_rises z row 0 (2 ^ (z + 1))))
    ]

no_rows : (z row count : ℕ) → 14 < z → flat_map (λ row. row_tiles z row 0 (2 ^ (z + 1))) (range_with_len row count) ≡ []
no_rows z row zero h = refl
no_rows z row (suc count) h =
    ap (λ ts. ts ++ flat_map (λ row. row_tiles z row 0 (2 ^ (z + 1))) (range_with_len (row + 1) count)) (no_row z row 0 (2 ^ (z + 1)) h)
    ∙ no_rows z (row + 1) count h

level_rises : (z : ℕ) → Rises (536870912 * z) (536870912 * (z + 1)) (level_tiles z)
level_rises z =
    elim (cases_lt 14 z) [
      | inl above ↦ subst (Rises (536870912 * z) (536870912 * (z + 1))) (sym (no_rows z 0 (2 ^ z) above)) (omega arith)
      | inr within ↦
          let rows : 2 ^ z ≤ 2 ^ 14 = pow_mono within in
          from_lower (536870912 * z + 32768 * 0) _ _ _ (omega arith)
          (to_higher _ (536870912 * z + 32768 * (0 + 2 ^ z)) _ _ (omega (arith, rows))
          (all_rise (λ row. 536870912 * z + 32768 * row) (λ row. row_tiles z row 0 (2 ^ (z + 1))) 0 (2 ^ z) (λ row from below. whole_row_rises z row)))
    ]

pub all_rises : (cap : ℕ) → Rises 0 (536870912 * (cap + 1)) (all_tiles cap)
unfolding all_tiles
all_rises cap =
    to_higher 0 (536870912 * (0 + (cap + 1))) _ _ (omega arith)
    (from_lower (536870912 * 0) 0 _ _ (omega arith) (all_rise (λ z. 536870912 * z) level_tiles 0 (cap + 1) (λ z from below. level_rises z)))

-- no other is there
pub all_within : (cap : ℕ) (t : TileId) → Contains (all_tiles cap) t → t.z ≤ cap
all_within cap t h =
    let low = All-contains (λ t. number_of t < 536870912 * (cap + 1)) (all_tiles cap) t (all_below 0 (536870912 * (cap + 1)) (all_tiles cap) (all_rises cap)) h in
    omega (arith, low)
