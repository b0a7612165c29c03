-- Weighted sums, and their bounds.
use Rattle.std.proofs.Common.{◌≡◌, ℕ, zero, suc, ◌+◌, ◌-◌, ◌*◌, ◌^◌, ◌<◌, ◌≤◌, false, List, [], ◌∷◌, refl, sym, ap, subst, ◌∙◌, arith, FitsSigned, w16}
use Rattle.std.specs.Int.{w128}
use Rattle.std.proofs.lemmas.Int.{ints, by_lt_z}
use Rattle.std.proofs.lemmas.Bool.{lt-ltb}
use lib.IntN.{ℤ, pos, ◌+ℤ◌, ◌-ℤ◌, ◌*ℤ◌}
use Rattle.terrain_base.specs.Height.{IsHeight}
use Rattle.terrain_base.specs.Division.{IsFloor}
use Rattle.terrain_base.proofs.Quotients.{mul_mono}
use Rattle.terrain_base.specs.declared.post.Post.{Post}
use Rattle.terrain_base.specs.declared.post.Post.TheVariants.{Void, Metres}
use Rattle.cell_mosaic.specs.declared.weighted.Weighted.{Weighted}
use Rattle.std.specs.List.{list_any}
use Rattle.cell_mosaic.specs.Blend.{times, counted, weighted_sum, rounded, value_of, has_no_height, IsWithinWeight}

-- a height times a weight is within the weight
pub scaled_within : (metres : ℤ) (weight : ℕ) → IsHeight metres → IsWithinWeight weight (metres *ℤ pos weight)
scaled_within metres weight h = record {
  above = omega (arith, ints, mul_mono weight (pos 0 -ℤ pos 16000) metres h.above);
  below = omega (arith, ints, mul_mono weight metres (pos 16000) h.below);
}

no_weight : (post : Post) → times post 0 ≡ pos 0
no_weight Void = refl
no_weight (Metres metres) = omega (arith, ints)

by_weight : (post : Post) (weight : ℕ) (posts : List Weighted) → weighted_sum (counted posts) ≡ weighted_sum posts
    → weighted_sum (counted (record { post = post; weight = weight } ∷ posts)) ≡ times post weight +ℤ weighted_sum posts
by_weight post zero posts e = e ∙ rw (no_weight post) (omega (arith, ints))
by_weight post (suc weight) posts e = rw (lt-ltb 0 (suc weight) (omega arith)) (ap (λ s. times post (suc weight) +ℤ s) e)

-- posts of weight 0 add nothing
pub sum_counted : (posts : List Weighted) → weighted_sum (counted posts) ≡ weighted_sum posts
sum_counted [] = refl
sum_counted (one ∷ posts) = by_weight one.post one.weight posts (sum_counted posts)

-- the rounded sum is a height, where the sum is within the unit
pub rounded_height : (s : ℤ) (u : ℕ) (q : ℤ) → 0 < u → IsFloor ((s *ℤ pos 2) +ℤ pos u) (pos (2 * u)) q → IsWithinWeight u s → IsHeight q
rounded_height s u q p f w = record {
  above = by_lt_z q (pos 0 -ℤ pos 16000)
      (λ less. absurd (omega (arith, ints, mul_mono (2 * u) q (pos 0 -ℤ pos 16001) (omega (arith, ints, less)), f.high, w.above)))
      (λ fine. fine);
  below = by_lt_z (pos 16000) q
      (λ less. absurd (omega (arith, ints, mul_mono (2 * u) (pos 16001) q (omega (arith, ints, less)), f.low, w.below)))
      (λ fine. fine);
}

pub scaled_small : (weight : ℕ) (product : ℤ) → weight ≤ 2 ^ 74 → IsWithinWeight weight product → IsWithinWeight (2 ^ 74) product
scaled_small weight product h w = record { above = omega (arith, ints, w.above); below = omega (arith, ints, w.below) }

-- the four weights make the unit
four : (w e s n : ℕ) (a b c d : ℤ) → IsWithinWeight (w * s) a → IsWithinWeight (e * s) b → IsWithinWeight (w * n) c → IsWithinWeight (e * n) d → IsWithinWeight ((w + e) * (s + n)) (a +ℤ (b +ℤ (c +ℤ (d +ℤ pos 0))))
four w e s n a b c d ha hb hc hd = record {
  above = omega (arith, ints, ha.above, hb.above, hc.above, hd.above);
  below = omega (arith, ints, ha.below, hb.below, hc.below, hd.below);
}

pub sum_within : (e eu n nu : ℕ) (a b c d : ℤ) → e ≤ eu → n ≤ nu → IsWithinWeight ((eu - e) * (nu - n)) a → IsWithinWeight (e * (nu - n)) b → IsWithinWeight ((eu - e) * n) c → IsWithinWeight (e * n) d → IsWithinWeight (eu * nu) (a +ℤ (b +ℤ (c +ℤ (d +ℤ pos 0))))
sum_within e eu n nu a b c d h k ha hb hc hd =
    let x : eu - e + e ≡ eu = omega arith in
    let y : nu - n + n ≡ nu = omega arith in
    subst (λ u. IsWithinWeight (u * nu) (a +ℤ (b +ℤ (c +ℤ (d +ℤ pos 0))))) x
    (subst (λ u. IsWithinWeight ((eu - e + e) * u) (a +ℤ (b +ℤ (c +ℤ (d +ℤ pos 0))))) y (four (eu - e) e (nu - n) n a b c d ha hb hc hd))

-- without a void, the value is the rounded sum
pub average_is : (posts : List Weighted) (unit : ℕ) (sum : ℤ) → list_any has_no_height (counted posts) ≡ false → sum ≡ weighted_sum posts → Metres (rounded sum unit) ≡ value_of posts unit
average_is posts unit sum none e = rw none (ap (λ s. Metres (rounded s unit)) (e ∙ sym (sum_counted posts)))

pub small_fits : (weight : ℕ) (product : ℤ) → weight ≤ 2 ^ 76 → IsWithinWeight weight product → FitsSigned w128 product
small_fits weight product h w = omega (arith, ints, w.above, w.below)

pub height_fits : (metres : ℤ) → IsHeight metres → FitsSigned w16 metres
height_fits metres h = omega (arith, ints, h.above, h.below)
