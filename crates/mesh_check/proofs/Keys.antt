-- A fraction times 2^30, rounded down, tells its order among fractions whose lower numbers are below 2^15.
use Rattle.std.proofs.Common.{◌≡◌, refl, ap, arith, ◌∙◌, [], ◌∷◌}
use Rattle.std.specs.Prelude.{ℤ, pos, ◌+ℤ◌, ◌*ℤ◌, ◌-ℤ◌, ◌≤ℤ◌, ◌<ℤ◌}
use Rattle.std.proofs.lemmas.Int.{ints, by_lt_z}
use Rattle.polynomial.proofs.Expressions.{var, num, add, sub, mul}
use Rattle.polynomial.proofs.NormalForm.{by_ring}
use Rattle.polynomial.proofs.Signs.{times_nonneg, times_pos}

-- quotients q and p of x and y, with their rests
-- x * e < y * d means x/d < y/e
module _ (x d q r y e p s : ℤ) (hd : pos 1 ≤ℤ d) (he : pos 1 ≤ℤ e) (ld : d ≤ℤ pos 32767) (le : e ≤ℤ pos 32767)
    (f : x *ℤ pos 1073741824 ≡ q *ℤ d +ℤ r) (g : y *ℤ pos 1073741824 ≡ p *ℤ e +ℤ s) (r0 : pos 0 ≤ℤ r) (s0 : pos 0 ≤ℤ s)
    (rd : r <ℤ d) (se : s <ℤ e) where
  -- both over one number
  first : (x *ℤ e) *ℤ pos 1073741824 ≡ (q *ℤ (d *ℤ e)) +ℤ r *ℤ e
  first =
      by_ring (mul (mul (var 0) (var 1)) (num 1073741824)) (mul (mul (var 0) (num 1073741824)) (var 1))
      (x ∷ e ∷ []) refl
      ∙ ap (λ i. i *ℤ e) f
      ∙ by_ring (mul (add (mul (var 0) (var 1)) (var 2)) (var 3)) (add (mul (var 0) (mul (var 1) (var 3)))
      (mul (var 2) (var 3))) (q ∷ d ∷ r ∷ e ∷ []) refl

  second : (y *ℤ d) *ℤ pos 1073741824 ≡ (p *ℤ (d *ℤ e)) +ℤ s *ℤ d
  second =
      by_ring (mul (mul (var 0) (var 1)) (num 1073741824)) (mul (mul (var 0) (num 1073741824)) (var 1))
      (y ∷ d ∷ []) refl
      ∙ ap (λ i. i *ℤ d) g
      ∙ by_ring (mul (add (mul (var 0) (var 1)) (var 2)) (var 3)) (add (mul (var 0) (mul (var 3) (var 1)))
      (mul (var 2) (var 3))) (p ∷ e ∷ s ∷ d ∷ []) refl

  -- products of rests
  s_small : (s *ℤ d) <ℤ pos 1073741824
  s_small =
      omega (
        arith,
        ints,
        times_nonneg (pos 32767 -ℤ s) d (omega (arith, ints, se, le)) (omega (arith, ints, hd)),
        by_ring (mul (sub (num 32767) (var 0)) (var 1)) (sub (mul (num 32767) (var 1)) (mul (var 0) (var 1)))
            (s ∷ d ∷ []) refl,
        ld,
      )

  pub keys_rise : (x *ℤ e) <ℤ (y *ℤ d) → q <ℤ p
  keys_rise l =
      by_lt_z q p (λ k. k)
      (λ k. absurd (omega (
        arith,
        ints,
        first,
        second,
        s_small,
        l,
        times_nonneg (q -ℤ p) (d *ℤ e) (omega (arith, ints, k)) (times_nonneg d e (omega (arith, ints, hd))
            (omega (arith, ints, he))),
        by_ring (mul (sub (var 0) (var 1)) (var 2)) (sub (mul (var 0) (var 2)) (mul (var 1) (var 2)))
            (q ∷ p ∷ (d *ℤ e) ∷ []) refl,
        times_nonneg r e r0 (omega (arith, ints, he)),
      )))

  pub keys_keep : x *ℤ e ≡ y *ℤ d → p ≤ℤ q
  keys_keep l =
      by_lt_z q p
      (λ k. absurd (omega (
        arith,
        ints,
        first,
        second,
        l,
        times_nonneg (p -ℤ q -ℤ pos 1) (d *ℤ e) (omega (arith, ints, k)) (times_nonneg d e (omega (arith, ints, hd))
            (omega (arith, ints, he))),
        by_ring (mul (sub (sub (var 0) (var 1)) (num 1)) (var 2)) (sub (sub (mul (var 0) (var 2)) (mul (var 1) (var 2)))
            (var 2)) (p ∷ q ∷ (d *ℤ e) ∷ []) refl,
        times_pos (d -ℤ r) e (omega (arith, ints, rd)) (omega (arith, ints, he)),
        by_ring (mul (sub (var 0) (var 1)) (var 2)) (sub (mul (var 0) (var 2)) (mul (var 1) (var 2)))
            (d ∷ r ∷ e ∷ []) refl,
        times_nonneg s d s0 (omega (arith, ints, hd)),
      )))
      (λ k. k)
