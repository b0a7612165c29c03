-- Sizes of products, and quotients rounded up.
use Rattle.std.proofs.Common.{◌≡◌, ℕ, zero, suc, ◌+◌, ◌*◌, ◌/◌, ◌<◌, ◌≤◌, arith, refl, subst, [], ◌∷◌}
use Rattle.std.specs.Prelude.{ℤ, pos, negsuc, ◌-ℤ◌, ◌*ℤ◌, ◌<ℤ◌, unsigned_abs, int_div}
use Rattle.std.proofs.Math.Nat.{div-add-mod', mod-lt}
use Rattle.std.proofs.lemmas.Int.{ints, by_lt_z, unsigned_abs-mul}
use Rattle.std.proofs.lemmas.Nat.{mul-le}
use Rattle.polynomial.proofs.Expressions.{var, num, add, sub, mul}
use Rattle.polynomial.proofs.NormalForm.{by_ring}
use Rattle.polynomial.proofs.Signs.{times_nonneg}
use Rattle.mesh_plane.specs.Surface.{IsCeiling}

pub size_product : (a b : ℤ) (m n : ℕ) → unsigned_abs a ≤ m → unsigned_abs b ≤ n
    → unsigned_abs (a *ℤ b) ≤ m * n
size_product a b m n h k =
    omega (arith, unsigned_abs-mul a b, mul-le (unsigned_abs a) (unsigned_abs b) m n h k)

-- one more than the whole part of (over - 1)/under is the least whole number that is at least over/under
ceiling : (x under : ℕ) → 0 < under → IsCeiling (pos (suc x)) (pos under) (pos (x / under + 1))
ceiling x under h = record {
  enough = omega (
    arith,
    ints,
    div-add-mod' x under,
    mod-lt x h,
    by_ring (mul (add (var 0) (num 1)) (var 1)) (add (mul (var 0) (var 1)) (var 1))
        (pos (x / under) ∷ pos under ∷ []) refl,
  );
  least = λ k l. by_lt_z k (pos (x / under + 1))
      (λ m. absurd (omega (
        arith,
        ints,
        l,
        div-add-mod' x under,
        times_nonneg (pos (x / under) -ℤ k) (pos under) (omega (arith, ints, m)) (omega (arith, ints)),
        by_ring (mul (sub (var 0) (var 1)) (var 2)) (sub (mul (var 0) (var 2)) (mul (var 1) (var 2)))
            (pos (x / under) ∷ k ∷ pos under ∷ []) refl,
      )))
      (λ m. m);
}

-- the same for the whole numbers of the program
pub ceiling_above : (over under : ℤ) → pos 0 <ℤ under → pos 0 <ℤ over
    → IsCeiling over under (pos (unsigned_abs (int_div (over -ℤ pos 1) under) + 1))
ceiling_above (pos zero) under h k = absurd (omega (arith, ints))
ceiling_above (pos (suc x)) (pos d) h k =
    let e : pos x ≡ pos (suc x) -ℤ pos 1 = omega (arith, ints) in
    subst (λ (y : ℤ). IsCeiling (pos (suc x)) (pos d) (pos (unsigned_abs (int_div y (pos d)) + 1))) e
    (ceiling x d (omega (arith, ints, h)))
ceiling_above (pos (suc x)) (negsuc d) h k = absurd (omega (arith, ints))
ceiling_above (negsuc x) under h k = absurd (omega (arith, ints))
