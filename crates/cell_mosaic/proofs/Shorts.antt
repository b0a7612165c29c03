-- Weighted sums of four heights by short units.
use Rattle.std.proofs.Common.{◌≡◌, ℕ, zero, suc, ◌+◌, ◌*◌, ◌-◌, ◌^◌, ◌≤◌, false, List, [], ◌∷◌, refl, arith, FitsSigned}
use Rattle.std.proofs.lemmas.Int.{ints}
use Rattle.std.proofs.lemmas.Bool.{lt-ltb}
use Rattle.std.proofs.Math.Nat.{mul-le-mul}
use Rattle.std.specs.List.{list_any}
use mir.Syntax.{w64}
use lib.IntN.{ℤ, ◌+ℤ◌}
use Rattle.terrain_base.specs.Height.{IsHeight}
use Rattle.terrain_base.specs.declared.post.Post.TheVariants.{Metres}
use Rattle.cell_mosaic.specs.declared.weighted.Weighted.{Weighted}
use Rattle.cell_mosaic.specs.Blend.{counted, has_no_height, heights_round, weighted, IsWithinWeight}

-- a product of two short lengths
pub short_weight : (a b : ℕ) → a ≤ 2 ^ 24 → b ≤ 2 ^ 24 → a * b ≤ 2 ^ 48
short_weight a b h k = let product : a * b ≤ 2 ^ 24 * 2 ^ 24 = mul-le-mul h k in omega (arith, product)

-- what is within a weight is within a greater one
pub part_short : (weight unit : ℕ) (part : ℤ) → weight ≤ unit → IsWithinWeight weight part → IsWithinWeight unit part
part_short weight unit part h within =
    record { above = omega (arith, ints, h, within.above); below = omega (arith, ints, h, within.below) }

joined_within : (u v : ℕ) (a b : ℤ) → IsWithinWeight u a → IsWithinWeight v b → IsWithinWeight (u + v) (a +ℤ b)
joined_within u v a b h k = record {
  above = omega (arith, ints, h.above, k.above);
  below = omega (arith, ints, h.below, k.below);
}

-- the last two, the last three and all four of four products by their bilinear weights
pub record AreWithin (unit : ℕ) (sw se nw ne : ℤ) : Type 0 where
  pub two : IsWithinWeight unit (nw +ℤ ne)
  pub three : IsWithinWeight unit (se +ℤ (nw +ℤ ne))
  pub four : IsWithinWeight unit (sw +ℤ (se +ℤ (nw +ℤ ne)))

by_parts : (west east south north unit : ℕ) (a b c d : ℤ) → (west + east) * (south + north) ≤ unit
    → IsWithinWeight (west * south) a → IsWithinWeight (east * south) b
    → IsWithinWeight (west * north) c → IsWithinWeight (east * north) d → AreWithin unit a b c d
by_parts west east south north unit a b c d short ha hb hc hd =
    let two = joined_within (west * north) (east * north) c d hc hd in
    let three = joined_within (east * south) _ b _ hb two in
    let four = joined_within (west * south) _ a _ ha three in
    record {
      two = part_short _ unit _ (omega (arith, short)) two;
      three = part_short _ unit _ (omega (arith, short)) three;
      four = part_short _ unit _ (omega (arith, short)) four;
    }

pub sums_within : (e eu n nu unit : ℕ) (a b c d : ℤ) → e ≤ eu → n ≤ nu → eu * nu ≤ unit
    → IsWithinWeight ((eu - e) * (nu - n)) a → IsWithinWeight (e * (nu - n)) b
    → IsWithinWeight ((eu - e) * n) c → IsWithinWeight (e * n) d → AreWithin unit a b c d
sums_within e eu n nu unit a b c d h k short =
    let x : eu - e + e ≡ eu = omega arith in
    let y : nu - n + n ≡ nu = omega arith in
    by_parts (eu - e) e (nu - n) n unit a b c d (rw (x, y) short)

pub sum_fits : (weight : ℕ) (sum : ℤ) → weight ≤ 2 ^ 48 → IsWithinWeight weight sum → FitsSigned w64 sum
sum_fits weight sum h within = omega (arith, ints, within.above, within.below)

pub height_fits_wide : (metres : ℤ) → IsHeight metres → FitsSigned w64 metres
height_fits_wide metres h = omega (arith, ints, h.above, h.below)

in_front : (metres : ℤ) (weight : ℕ) (posts : List Weighted) → list_any has_no_height (counted posts) ≡ false
    → list_any has_no_height (counted (record { post = Metres metres; weight = weight } ∷ posts)) ≡ false
in_front metres zero posts none = none
in_front metres (suc weight) posts none = rw (lt-ltb 0 (suc weight) (omega arith)) none

-- heights are no voids
pub no_voids : (sw se nw ne : ℤ) (east east_unit north north_unit : ℕ)
    → list_any has_no_height (counted (weighted (heights_round sw se nw ne) east east_unit north north_unit)) ≡ false
no_voids sw se nw ne east east_unit north north_unit =
    let fourth : Weighted = record { post = Metres ne; weight = east * north } in
    let third : Weighted = record { post = Metres nw; weight = (east_unit - east) * north } in
    let second : Weighted = record { post = Metres se; weight = east * (north_unit - north) } in
    in_front sw ((east_unit - east) * (north_unit - north)) (second ∷ third ∷ fourth ∷ [])
    (in_front se second.weight (third ∷ fourth ∷ [])
    (in_front nw third.weight (fourth ∷ []) (in_front ne fourth.weight [] refl)))
