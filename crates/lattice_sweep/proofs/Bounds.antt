-- Bounds, raised by one set of fractions after another.
use Rattle.std.proofs.Common.{◌≡◌, ℕ, ◌+◌, ◌/◌, ◌%◌, ◌<◌, ◌≤◌, max, min, arith, refl, [], ◌∷◌, ⊎_elim, subst, sym}
use Rattle.std.specs.Prelude.{◌⊎◌, ℤ, pos, ◌+ℤ◌, ◌-ℤ◌, ◌*ℤ◌, ◌≤ℤ◌}
use Rattle.std.proofs.lemmas.Int.{ints, by_lt_z}
use Rattle.std.proofs.lemmas.Grind.{div_ceil_times}
use Rattle.polynomial.proofs.Expressions.{var, num, add, sub, mul}
use Rattle.polynomial.proofs.NormalForm.{by_ring}
use Rattle.polynomial.proofs.Signs.{times_nonneg}
use Rattle.lattice_sweep.specs.Sweep.{IsRaised}
use Rattle.lattice_sweep.specs.Bound.{IsRaisedBound}

-- a greater bound keeps more
pub grown : (gap : ℕ) (b c : ℕ) (under : ℤ) → pos 0 ≤ℤ under → b ≤ c → pos gap ≤ℤ (pos b *ℤ under) → pos gap ≤ℤ (pos c *ℤ under)
grown gap b c under h k l =
    omega (
      arith,
      ints,
      l,
      times_nonneg (pos c -ℤ pos b) under (omega (arith, ints)) h,
      by_ring (mul (sub (var 0) (var 1)) (var 2)) (sub (mul (var 0) (var 2)) (mul (var 1) (var 2))) (pos c ∷ pos b ∷ under ∷ []) refl,
    )

-- the quotient rounded up is the least number that keeps it
pub ceil_keeps : (n d : ℕ) → 0 < d → pos n ≤ℤ (pos (n / d + min 1 (n % d)) *ℤ pos d)
ceil_keeps n d h = omega (arith, ints, div_ceil_times n d h)

pub ceil_least : (n d k : ℕ) → 0 < d → pos n ≤ℤ (pos k *ℤ pos d) → n / d + min 1 (n % d) ≤ k
ceil_least n d k h l =
    let q = n / d + min 1 (n % d) in
    let b = div_ceil_times n d h in
    by_lt_z (pos k) (pos q)
    (λ m. absurd (omega (
      arith,
      ints,
      l,
      b,
      times_nonneg (pos q -ℤ (pos k +ℤ pos 1)) (pos d) (omega (arith, ints, m)) (omega (arith, ints)),
      by_ring (mul (sub (var 0) (add (var 1) (num 1))) (var 2)) (sub (mul (var 0) (var 2)) (add (mul (var 1) (var 2)) (var 2))) (pos q ∷ pos k ∷ pos d ∷ []) refl,
    )))
    (λ m. omega (arith, ints, m))

-- from the greatest gap over one area
pub raised_by : {P : ℕ → Type 0} {G : ℕ → ℤ → Type 0} (worst d before : ℕ) → 0 < d → IsRaised P 0 worst
    → ((n : ℕ) → P n → G n (pos d)) → ((n : ℕ) (u : ℤ) → G n u → P n) → ((n : ℕ) (u : ℤ) → G n u → u ≡ pos d)
    → IsRaisedBound G before (max before (worst / d + min 1 (worst % d)))
raised_by {P} {G} worst d before h r to from area =
    let q = worst / d + min 1 (worst % d) in record {
      least = omega arith;
      keeps = λ gap under g.
          let a = r.most gap (from gap under g) in
          let b = ceil_keeps worst d h in
          subst (λ u. pos gap ≤ℤ (pos (max before q) *ℤ u)) (sym (area gap under g))
          (grown gap q (max before q) (pos d) (omega (arith, ints)) (omega arith) (omega (arith, ints, a, b)));
      sharp = λ n k keeps.
          let l : q ≤ n = ceil_least worst d n h
          (⊎_elim (λ (e : worst ≡ 0). times_kept n e) (λ (p : P worst). keeps worst (pos d) (to worst p)) r.attained) in
          omega arith;
    }
  where
    times_kept : (n : ℕ) → worst ≡ 0 → pos worst ≤ℤ (pos n *ℤ pos d)
    times_kept n e = omega (arith, ints, e, times_nonneg (pos n) (pos d) (omega (arith, ints)) (omega (arith, ints)))

-- by two sets
pub bounds_both : {G H K : ℕ → ℤ → Type 0} {a b c : ℕ} → ((n : ℕ) (u : ℤ) → G n u → K n u) → ((n : ℕ) (u : ℤ) → H n u → K n u)
    → ((n : ℕ) (u : ℤ) → K n u → G n u ⊎ H n u) → ((n : ℕ) (u : ℤ) → G n u → pos 0 ≤ℤ u)
    → IsRaisedBound G a b → IsRaisedBound H b c → IsRaisedBound K a c
bounds_both {G} {H} {K} {a} {b} {c} f g cases above r s = record {
  least = omega (arith, r.least, s.least);
  keeps = λ n u k. ⊎_elim (λ (x : G n u). grown n b c u (above n u x) s.least (r.keeps n u x)) (λ (y : H n u). s.keeps n u y) (cases n u k);
  sharp = λ n k keeps. s.sharp n (r.sharp n k (λ m u x. keeps m u (f m u x))) (λ m u y. keeps m u (g m u y));
}

-- by none
pub bounds_none : {G : ℕ → ℤ → Type 0} {a : ℕ} → ((n : ℕ) (u : ℤ) → G n u → ⊥) → IsRaisedBound G a a
bounds_none {G} {a} none = record {
  least = omega arith;
  keeps = λ n u g. absurd (none n u g);
  sharp = λ n h k. h;
}

-- by the same
pub bounds_same : {G H : ℕ → ℤ → Type 0} {a b : ℕ} → ((n : ℕ) (u : ℤ) → G n u → H n u) → ((n : ℕ) (u : ℤ) → H n u → G n u)
    → IsRaisedBound G a b → IsRaisedBound H a b
bounds_same f g r = record {
  least = r.least;
  keeps = λ n u h. r.keeps n u (g n u h);
  sharp = λ n h k. r.sharp n h (λ m u x. k m u (f m u x));
}

-- at most 32000 where the greatest gap is
pub ceil_few : (worst d : ℕ) → 0 < d → pos worst ≤ℤ (pos 32000 *ℤ pos d) → worst / d + min 1 (worst % d) ≤ 32000
ceil_few worst d h l = ceil_least worst d 32000 h l
