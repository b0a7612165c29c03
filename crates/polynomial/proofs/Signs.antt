-- The sign of a product and of its factors, and cases by the order of two numbers.
use Rattle.std.proofs.Common.{◌≡◌, refl, inl, inr, ⊎_elim, [], ◌∷◌, ◌*◌, ◌≤◌, arith}
use Rattle.std.specs.Prelude.{◌⊎◌, ◌-ℤ◌, ℤ, pos, negsuc, ◌*ℤ◌, ◌≤ℤ◌, ◌<ℤ◌}
use Rattle.std.proofs.lemmas.Int.{ints, by_lt_z}
use Rattle.std.proofs.lemmas.Nat.{mul-le}
use Rattle.polynomial.proofs.Expressions.{var, num, sub, mul}
use Rattle.polynomial.proofs.NormalForm.{by_ring}

pub times_nonneg : (a b : ℤ) → pos 0 ≤ℤ a → pos 0 ≤ℤ b → pos 0 ≤ℤ (a *ℤ b)
times_nonneg a b h k = grind (arith, ints)

pub times_pos : (a b : ℤ) → pos 0 <ℤ a → pos 0 <ℤ b → pos 0 <ℤ (a *ℤ b)
times_pos (pos a) (pos b) h k = let l : 1 ≤ a * b =
    omega (arith, ints, mul-le 1 1 a b (omega (arith, ints)) (omega (arith, ints))) in omega (arith, ints)
times_pos (pos a) (negsuc b) h k = absurd (omega (arith, ints))
times_pos (negsuc a) b h k = absurd (omega (arith, ints))

pub factor_nonneg : (a b : ℤ) → pos 0 <ℤ a → pos 0 ≤ℤ (a *ℤ b) → pos 0 ≤ℤ b
factor_nonneg a b h k = grind (arith, ints)

pub factor_pos : (a b : ℤ) → pos 0 <ℤ a → pos 0 <ℤ (a *ℤ b) → pos 0 <ℤ b
factor_pos a b h k = grind (arith, ints)

pub weaken : {a b : ℤ} → a <ℤ b → a ≤ℤ b
weaken {a} {b} h = omega (arith, ints)

pub by_le_z : {P : Type 0} (a b : ℤ) → (a ≤ℤ b → P) → (b ≤ℤ a → P) → P
by_le_z a b f g = by_lt_z a b (λ h. f (weaken h)) g

-- a product is 0 only where a factor is
pub product_nought : (a b : ℤ) → a *ℤ b ≡ pos 0 → (a ≡ pos 0) ⊎ (b ≡ pos 0)
product_nought a b e =
    let turned_left : (pos 0 -ℤ a) *ℤ b ≡ pos 0 -ℤ a *ℤ b =
    by_ring (mul (sub (num 0) (var 0)) (var 1)) (sub (num 0) (mul (var 0) (var 1))) (a ∷ b ∷ []) refl in
    let turned_right : a *ℤ (pos 0 -ℤ b) ≡ pos 0 -ℤ a *ℤ b =
    by_ring (mul (var 0) (sub (num 0) (var 1))) (sub (num 0) (mul (var 0) (var 1))) (a ∷ b ∷ []) refl in
    let turned_both : (pos 0 -ℤ a) *ℤ (pos 0 -ℤ b) ≡ a *ℤ b =
    by_ring (mul (sub (num 0) (var 0)) (sub (num 0) (var 1))) (mul (var 0) (var 1)) (a ∷ b ∷ []) refl in
    by_lt_z (pos 0) a
    (λ h. by_lt_z (pos 0) b (λ k. absurd (omega (arith, ints, e, times_pos a b h k)))
    (λ k. by_lt_z b (pos 0)
    (λ l. absurd (omega (arith, ints, e, turned_right, times_pos a (pos 0 -ℤ b) h (omega (arith, ints, l)))))
    (λ l. inr (omega (arith, ints, k, l)))))
    (λ h. by_lt_z a (pos 0)
    (λ l. by_lt_z (pos 0) b
    (λ k. absurd (omega (arith, ints, e, turned_left, times_pos (pos 0 -ℤ a) b (omega (arith, ints, l)) k)))
    (λ k. by_lt_z b (pos 0)
    (λ m. absurd (omega (
      arith,
      ints,
      e,
      turned_both,
      times_pos (pos 0 -ℤ a) (pos 0 -ℤ b) (omega (arith, ints, l)) (omega (arith, ints, m)),
    )))
    (λ m. inr (omega (arith, ints, k, m)))))
    (λ l. inl (omega (arith, ints, h, l))))

-- what times a number above 0 is 0 is 0
pub factor_nought : (a b : ℤ) → pos 0 <ℤ a → a *ℤ b ≡ pos 0 → b ≡ pos 0
factor_nought a b h e = ⊎_elim (λ k. absurd (omega (arith, ints, h, k))) (λ k. k) (product_nought a b e)
