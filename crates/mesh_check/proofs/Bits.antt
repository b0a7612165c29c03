-- Equal numbers have equal bits.
use Rattle.std.proofs.Common.{◌≡◌, refl, ap, arith, IsTrue, nat_eq, w64, of_z}
use Rattle.std.specs.Prelude.{ℤ, pos, negsuc, ◌-ℤ◌, ◌*ℤ◌, ◌≤ℤ◌}
use Rattle.std.proofs.lemmas.Int.{ints}
use Rattle.polynomial.proofs.Signs.{times_nonneg}
use Rattle.polynomial.proofs.Expressions.{var, num, sub, mul}
use Rattle.polynomial.proofs.NormalForm.{by_ring}
use Rattle.std.proofs.Common.{[], ◌∷◌}

pub same_bits : (a b : ℤ) → pos 0 ≤ℤ a → pos 0 ≤ℤ b
    → (IsTrue (nat_eq (of_z w64 a) (of_z w64 b)) → a ≡ b) × (a ≡ b → IsTrue (nat_eq (of_z w64 a) (of_z w64 b)))
same_bits (pos a) (pos b) h k = (
  (λ e. let f : a ≡ b = grind arith in ap pos f),
  (λ e. let f : a ≡ b = omega (arith, ints, e) in grind arith),
)
same_bits (pos a) (negsuc b) h k = absurd (omega (arith, ints, k))
same_bits (negsuc a) b h k = absurd (omega (arith, ints, h))

-- a coordinate times a difference
pub at_most : (a w : ℤ) → a ≤ℤ pos 32767 → pos 0 ≤ℤ w → (a *ℤ w) ≤ℤ (pos 32767 *ℤ w)
at_most a w h k =
    omega (
      arith,
      ints,
      times_nonneg (pos 32767 -ℤ a) w (omega (arith, ints, h)) k,
      by_ring (mul (sub (num 32767) (var 0)) (var 1)) (sub (mul (num 32767) (var 1)) (mul (var 0) (var 1)))
          (a ∷ w ∷ []) refl,
    )
