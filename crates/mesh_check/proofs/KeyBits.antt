-- Shifts of sums that fit.
use Rattle.std.proofs.Common.{◌≡◌, ℕ, ◌+◌, ◌*◌, ◌/◌, ◌%◌, ap, sym, ◌∙◌, arith, unsigned_abs}
use Rattle.std.specs.Prelude.{ℤ, pos, ◌+ℤ◌, ◌≤ℤ◌}
use Rattle.std.proofs.lemmas.Int.{ints}

pub shifted : (l h : ℤ) (r : ℕ) → pos 0 ≤ℤ l → l ≤ℤ pos 1073676289 → pos 0 ≤ℤ h → h ≤ℤ pos 1073676289
    → (unsigned_abs l + unsigned_abs h) * 1073741824 % 18446744073709551616 / r ≡ unsigned_abs (l +ℤ h) * 1073741824 / r
shifted l h r l0 l1 h0 h1 =
    let e : unsigned_abs (l +ℤ h) ≡ unsigned_abs l + unsigned_abs h = omega (arith, ints) in
    let m : (unsigned_abs l + unsigned_abs h) * 1073741824 % 18446744073709551616 ≡
    (unsigned_abs l + unsigned_abs h) * 1073741824 = omega (arith, ints) in
    ap (λ (n : ℕ). n / r) (m ∙ ap (λ (n : ℕ). n * 1073741824) (sym e))
