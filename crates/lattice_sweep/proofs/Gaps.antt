-- A gap of two heights within 16000 metres is at most 32000 metres.
use Rattle.std.proofs.Common.{arith, refl, [], ◌∷◌}
use Rattle.std.specs.Prelude.{ℤ, pos, ◌-ℤ◌, ◌*ℤ◌, ◌+ℤ◌, ◌≤ℤ◌, ◌<ℤ◌, unsigned_abs}
use Rattle.std.proofs.lemmas.Int.{ints}
use Rattle.polynomial.proofs.Expressions.{var, num, sub, add, mul}
use Rattle.polynomial.proofs.NormalForm.{by_ring}
use Rattle.polynomial.proofs.Signs.{times_nonneg, weaken}
use Rattle.terrain_base.specs.Height.{IsHeight}

small : (z m : ℤ) → z ≤ℤ m → (pos 0 -ℤ z) ≤ℤ m → pos (unsigned_abs z) ≤ℤ m
small z m h k = grind (arith, ints)

pub gap_within : (lift under metres : ℤ) → pos 0 <ℤ under → ((pos 0 -ℤ pos 16000) *ℤ under) ≤ℤ lift
    → lift ≤ℤ (pos 16000 *ℤ under) → IsHeight metres → pos (unsigned_abs (lift -ℤ metres *ℤ under)) ≤ℤ (pos 32000 *ℤ under)
gap_within lift under metres h low high m =
    let a = times_nonneg (pos 16000 -ℤ metres) under (omega (arith, ints, m.below)) (weaken h) in
    let b = times_nonneg (metres +ℤ pos 16000) under (omega (arith, ints, m.above)) (weaken h) in
    let c = by_ring (mul (sub (num 16000) (var 0)) (var 1)) (sub (mul (num 16000) (var 1)) (mul (var 0) (var 1))) (metres ∷ under ∷ []) refl in
    let d = by_ring (mul (add (var 0) (num 16000)) (var 1)) (add (mul (var 0) (var 1)) (mul (num 16000) (var 1))) (metres ∷ under ∷ []) refl in
    small (lift -ℤ metres *ℤ under) (pos 32000 *ℤ under) (omega (arith, ints, low, high, a, b, c, d)) (omega (arith, ints, low, high, a, b, c, d))
