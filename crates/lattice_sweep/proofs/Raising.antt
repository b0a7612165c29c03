-- The greatest number, raised by one set of numbers after another.
use Rattle.std.proofs.Common.{◌≡◌, ℕ, max, arith, inl, inr, ⊎_elim, subst, sym, refl, ◌∙◌}
use Rattle.std.specs.Prelude.{◌⊎◌}
use Rattle.lattice_sweep.specs.Sweep.{IsRaised}

module _ {P Q : ℕ → Type 0} {a b : ℕ} where
  -- the same numbers
  pub raised_same : ((n : ℕ) → P n → Q n) → ((n : ℕ) → Q n → P n) → IsRaised P a b → IsRaised Q a b
  raised_same f g r = record {
    least = r.least;
    most = λ n h. r.most n (g n h);
    attained = ⊎_elim (λ e. inl e) (λ h. inr (f b h)) r.attained;
  }

-- one number
pub raised_is : {Q : ℕ → Type 0} {a : ℕ} (m : ℕ) → Q m → ((n : ℕ) → Q n → n ≡ m) → IsRaised Q a (max a m)
raised_is {Q} {a} m here only = record {
  least = omega arith;
  most = λ n h. let e = only n h in omega arith;
  attained = ⊎_elim (λ e. inl e) (λ e. inr (subst Q (sym e) here)) (one_of a m);
}
  where
    one_of : (x y : ℕ) → (max x y ≡ x) ⊎ (max x y ≡ y)
    one_of x y = grind arith

-- the numbers of two sets
pub raised_both : {P Q R : ℕ → Type 0} {a b c : ℕ} → ((n : ℕ) → P n → R n) → ((n : ℕ) → Q n → R n)
    → ((n : ℕ) → R n → P n ⊎ Q n) → IsRaised P a b → IsRaised Q b c → IsRaised R a c
raised_both {P} {Q} {R} {a} {b} {c} f g h r s = record {
  least = omega (arith, r.least, s.least);
  most = λ n x. ⊎_elim (λ p. omega (arith, r.most n p, s.least)) (λ q. s.most n q) (h n x);
  attained = ⊎_elim
      (λ (e : c ≡ b). ⊎_elim (λ (d : b ≡ a). inl (e ∙ d)) (λ (p : P b). inr (subst R (sym e) (f b p))) r.attained)
      (λ (q : Q c). inr (g c q)) s.attained;
}

-- no numbers
pub raised_none : {P : ℕ → Type 0} {a : ℕ} → ((n : ℕ) → P n → ⊥) → IsRaised P a a
raised_none {P} {a} f = record { least = omega arith; most = λ n h. absurd (f n h); attained = inl refl }
