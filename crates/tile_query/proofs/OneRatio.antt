-- A fraction has one form in lowest terms.
use Rattle.std.proofs.Common.{◌≡◌, refl, sym, subst, ap, ◌∙◌, arith, ℕ, zero, suc, ◌+◌, ◌*◌, ◌/◌, ◌%◌, ◌<◌, ◌≤◌, [], ◌∷◌}
use Rattle.std.specs.Prelude.{ℤ, pos, ◌+ℤ◌, ◌-ℤ◌, ◌*ℤ◌, ◌<ℤ◌, unsigned_abs}
use Rattle.std.proofs.lemmas.Int.{ints}
use Rattle.std.proofs.Math.Nat.{mod-lt, mod-eq-sub-div-mul, div-mul-le_self}
use Rattle.polynomial.proofs.Expressions.{var, num, add, sub, mul}
use Rattle.polynomial.proofs.NormalForm.{by_ring}
use Rattle.polynomial.proofs.Signs.{factor_pos}
use Rattle.mesh_plane.proofs.Heights.{cancelled}
use Rattle.mesh_query.specs.declared.ratio.Ratio.{Ratio}
use Rattle.mesh_query.specs.Ratios.{IsLowest, IsSame}

-- a/b and c/d are multiples of one fraction
pub record AreMultiples (a b c d : ℤ) : Type 0 where
  pub over : ℤ
  pub under : ℤ
  pub first : ℤ
  pub second : ℤ
  pub above_zero : pos 0 <ℤ under
  pub a_is : a ≡ first *ℤ over
  pub b_is : b ≡ first *ℤ under
  pub c_is : c ≡ second *ℤ over
  pub d_is : d ≡ second *ℤ under

-- ---- one of Euclid's steps: b is k times d, and e more
module _ (a b c d : ℤ) (k e : ℤ) (is : b ≡ k *ℤ d +ℤ e) (same : a *ℤ d ≡ c *ℤ b) where
  -- the fraction of the remainders
  rest_same : c *ℤ e ≡ (a -ℤ k *ℤ c) *ℤ d
  rest_same =
      by_ring (mul (var 0) (var 1)) (sub (mul (var 0) (add (mul (var 2) (var 3)) (var 1))) (mul (mul (var 2) (var 0)) (var 3)))
      (c ∷ e ∷ k ∷ d ∷ []) refl
      ∙ ap (λ v. c *ℤ v -ℤ (k *ℤ c) *ℤ d) (sym is)
      ∙ ap (λ v. v -ℤ (k *ℤ c) *ℤ d) (sym same)
      ∙ by_ring (sub (mul (var 0) (var 1)) (mul (mul (var 2) (var 3)) (var 1))) (mul (sub (var 0) (mul (var 2) (var 3))) (var 1))
      (a ∷ d ∷ k ∷ c ∷ []) refl

  from_rest : AreMultiples c d (a -ℤ k *ℤ c) e → AreMultiples a b c d
  from_rest m = record {
    over = m.over;
    under = m.under;
    first = k *ℤ m.first +ℤ m.second;
    second = m.first;
    above_zero = m.above_zero;
    a_is = by_ring (var 0) (add (mul (var 1) (var 2)) (sub (var 0) (mul (var 1) (var 2)))) (a ∷ k ∷ c ∷ []) refl
        ∙ ap (λ v. k *ℤ c +ℤ v) m.c_is
        ∙ ap (λ v. k *ℤ v +ℤ m.second *ℤ m.over) m.a_is
        ∙ by_ring (add (mul (var 0) (mul (var 1) (var 2))) (mul (var 3) (var 2)))
        (mul (add (mul (var 0) (var 1)) (var 3)) (var 2)) (k ∷ m.first ∷ m.over ∷ m.second ∷ []) refl;
    b_is = is
        ∙ ap (λ v. k *ℤ d +ℤ v) m.d_is
        ∙ ap (λ v. k *ℤ v +ℤ m.second *ℤ m.under) m.b_is
        ∙ by_ring (add (mul (var 0) (mul (var 1) (var 2))) (mul (var 3) (var 2)))
        (mul (add (mul (var 0) (var 1)) (var 3)) (var 2)) (k ∷ m.first ∷ m.under ∷ m.second ∷ []) refl;
    c_is = m.a_is;
    d_is = m.b_is;
  }

  -- no remainder
  at_end : pos 0 <ℤ d → e ≡ pos 0 → AreMultiples a b c d
  at_end above none = record {
    over = c;
    under = d;
    first = k;
    second = pos 1;
    above_zero = above;
    a_is = cancelled d a (k *ℤ c) above
        (by_ring (mul (var 0) (var 1)) (mul (var 1) (var 0)) (d ∷ a ∷ []) refl ∙ same
        ∙ ap (λ v. c *ℤ v) (is ∙ ap (λ v. k *ℤ d +ℤ v) none)
        ∙ by_ring (mul (var 0) (add (mul (var 1) (var 2)) (num 0))) (mul (var 2) (mul (var 1) (var 0))) (c ∷ k ∷ d ∷ []) refl);
    b_is = is ∙ ap (λ v. k *ℤ d +ℤ v) none
        ∙ by_ring (add (mul (var 0) (var 1)) (num 0)) (mul (var 0) (var 1)) (k ∷ d ∷ []) refl;
    c_is = by_ring (var 0) (mul (num 1) (var 0)) (c ∷ []) refl;
    d_is = by_ring (var 0) (mul (num 1) (var 0)) (d ∷ []) refl;
  }

-- a number is its quotient by another, times that, and the remainder
whole : (b d r : ℕ) → r ≡ b % d → pos b ≡ pos (b / d) *ℤ pos d +ℤ pos r
whole b d r f =
    let e : b ≡ b / d * d + r = omega (arith, mod-eq-sub-div-mul b d, div-mul-le_self b d, f) in ap pos e

-- by the remainder r: where it is 0, and where it is above 0 by what is known of lower numbers
by_rest : (b d : ℕ) (a c : ℤ) → 0 < d → a *ℤ pos d ≡ c *ℤ pos b
    → ((r : ℕ) (v : ℤ) → 0 < r → r < d → c *ℤ pos r ≡ v *ℤ pos d → AreMultiples c (pos d) v (pos r)) → (r : ℕ) → r ≡ b % d
    → AreMultiples a (pos b) c (pos d)
by_rest b d a c h e lower zero f = at_end a (pos b) c (pos d) (pos (b / d)) (pos 0) (whole b d zero f) e (omega (arith, ints, h)) refl
by_rest b d a c h e lower (suc r) f =
    let is = whole b d (suc r) f in
    from_rest a (pos b) c (pos d) (pos (b / d)) (pos (suc r)) is e
    (lower (suc r) (a -ℤ pos (b / d) *ℤ c) (omega arith) (omega (arith, f, mod-lt b h))
    (rest_same a (pos b) c (pos d) (pos (b / d)) (pos (suc r)) is e))

-- for lower numbers d up to n
euclid : (n b d : ℕ) (a c : ℤ) → 0 < d → d ≤ n → a *ℤ pos d ≡ c *ℤ pos b → AreMultiples a (pos b) c (pos d)
euclid zero b d a c h l e = absurd (omega (arith, h, l))
euclid (suc n) b d a c h l e =
    by_rest b d a c h e (λ r v above less same. euclid n d r c v above (omega (arith, less, l)) same) (b % d) refl

abbrev pub NoFactor : ℤ → ℤ → Type 0
NoFactor over under = (k m n : ℤ) → pos 0 <ℤ k → over ≡ k *ℤ m → under ≡ k *ℤ n → k ≡ pos 1

module _ (a b c d : ℤ) (above_b : pos 0 <ℤ b) (above_d : pos 0 <ℤ d) (f : NoFactor a b) (g : NoFactor c d) where
  above : (x y w : ℤ) → pos 0 <ℤ w → pos 0 <ℤ x → x ≡ y *ℤ w → pos 0 <ℤ y
  above x y w k h i = factor_pos w y k (subst (λ (v : ℤ). pos 0 <ℤ v)
      (i ∙ by_ring (mul (var 0) (var 1)) (mul (var 1) (var 0)) (y ∷ w ∷ []) refl) h)

  of_multiples : AreMultiples a b c d → (a ≡ c) × (b ≡ d)
  of_multiples m =
      let first : m.first ≡ pos 1 = f m.first m.over m.under (above b m.first m.under m.above_zero above_b m.b_is) m.a_is m.b_is in
      let second : m.second ≡ pos 1 =
      g m.second m.over m.under (above d m.second m.under m.above_zero above_d m.d_is) m.c_is m.d_is in
      let same : m.first ≡ m.second = first ∙ sym second in
      (m.a_is ∙ ap (λ v. v *ℤ m.over) same ∙ sym m.c_is, m.b_is ∙ ap (λ v. v *ℤ m.under) same ∙ sym m.d_is)

  multiples : a *ℤ d ≡ c *ℤ b → AreMultiples a b c d
  multiples e =
      let b_is : pos (unsigned_abs b) ≡ b = omega (arith, ints, above_b) in
      let d_is : pos (unsigned_abs d) ≡ d = omega (arith, ints, above_d) in
      subst (λ (v : ℤ). AreMultiples a v c d) b_is
      (subst (λ (v : ℤ). AreMultiples a (pos (unsigned_abs b)) c v) d_is
      (euclid (unsigned_abs d) (unsigned_abs b) (unsigned_abs d) a c (omega (arith, ints, above_d)) (omega arith)
      (ap (λ v. a *ℤ v) d_is ∙ e ∙ ap (λ v. c *ℤ v) (sym b_is))))

  -- two fractions of one value in lowest terms have the same numbers
  pub one_pair : a *ℤ d ≡ c *ℤ b → (a ≡ c) × (b ≡ d)
  one_pair e = of_multiples (multiples e)

pub one_ratio : (r s : Ratio) → IsLowest r → IsLowest s → IsSame r s → r ≡ s
one_ratio r s h i e =
    let pair = one_pair r.over r.under s.over s.under h.above_zero i.above_zero h.lowest i.lowest e in
    λ k. record { over = pair.0 k; under = pair.1 k }
