-- How many steps lie before a place.
use Rattle.std.proofs.Common.{◌≡◌, ℕ, ◌+◌, ◌-◌, ◌/◌, ◌≤◌, arith, refl, [], ◌∷◌}
use Rattle.std.specs.Prelude.{◌↔◌, ℤ, pos, negsuc, ◌+ℤ◌, ◌-ℤ◌, ◌*ℤ◌, ◌≤ℤ◌, ◌<ℤ◌, unsigned_abs}
use Rattle.std.proofs.Math.Nat.{div-add-mod', mod-lt}
use Rattle.std.proofs.lemmas.Int.{ints, by_lt_z}
use Rattle.polynomial.proofs.Expressions.{var, num, add, sub, mul}
use Rattle.polynomial.proofs.NormalForm.{by_ring}
use Rattle.polynomial.proofs.Signs.{times_nonneg}

steps_nat : (first low : ℤ) (s d : ℕ) → pos d ≡ low -ℤ first → 1 ≤ d → 1 ≤ s → (i : ℕ)
    → (low ≤ℤ (first +ℤ pos s *ℤ pos i)) ↔ ((d - 1) / s + 1 ≤ i)
steps_nat first low s d e h k i =
    let q = (d - 1) / s in
    let a = div-add-mod' (d - 1) s in
    let b = mod-lt (d - 1) k in
    let r = by_ring (mul (sub (var 0) (var 1)) (var 2)) (sub (mul (var 0) (var 2)) (mul (var 2) (var 1)))
    (pos q ∷ pos i ∷ pos s ∷ []) refl in
    let r' = by_ring (mul (sub (var 1) (add (var 0) (num 1))) (var 2)) (sub (mul (var 2) (var 1)) (add (mul (var 0) (var 2)) (var 2)))
    (pos q ∷ pos i ∷ pos s ∷ []) refl in (
      λ l. by_lt_z (pos q) (pos i) (λ m. omega (arith, ints, m))
          (λ m. absurd (omega (arith, ints, l, e, a, b, r, times_nonneg (pos q -ℤ pos i) (pos s) (omega (arith, ints, m)) (omega (arith, ints))))),
      λ l. omega (arith, ints, e, a, b, r', times_nonneg (pos i -ℤ (pos q +ℤ pos 1)) (pos s) (omega (arith, ints, l)) (omega (arith, ints))),
    )

pub steps_before : (first step low : ℤ) → first <ℤ low → pos 1 ≤ℤ step → (i : ℕ)
    → (low ≤ℤ (first +ℤ step *ℤ pos i)) ↔ ((unsigned_abs (low -ℤ first) - 1) / unsigned_abs step + 1 ≤ i)
steps_before first (pos s) low h k i =
    steps_nat first low s (unsigned_abs (low -ℤ first)) (omega (arith, ints, h)) (omega (arith, ints, h)) (omega (arith, ints, k)) i
steps_before first (negsuc s) low h k i = absurd (omega (arith, ints, k))

-- a place at or before the first has none before it
pub no_steps : (first step low : ℤ) → low ≤ℤ first → pos 1 ≤ℤ step → (i : ℕ)
    → (low ≤ℤ (first +ℤ step *ℤ pos i)) ↔ (0 ≤ i)
no_steps first step low h k i =
    let p = times_nonneg step (pos i) (omega (arith, ints, k)) (omega (arith, ints)) in
    (λ l. omega arith, λ l. omega (arith, ints, h, p))
