-- Products of signed numbers, and what rounds quotients and roots. A number is read as `up z - down z`,
-- so that `omega` multiplies out.
use Rattle.std.proofs.Common.{◌≡◌, ℕ, zero, suc, ◌+◌, ◌*◌, ◌<◌, ◌≤◌, refl, ap, inl, inr, arith, true, false}
use Rattle.std.proofs.lemmas.Int.{ints, by_lt_z}
use Rattle.std.proofs.lemmas.Bool.{cases_lt}
use Rattle.std.proofs.lemmas.Bool.Decides.{nat_tests}
use Rattle.std.proofs.Math.Nat.{mul-le-mul, mul-le-mul_right, le_of_mul-le-mul_right}
use borrow.Author.Differences.{up, down, sum_is_lem, le_out, at_most_in}
use lib.IntN.{ℤ, pos, negsuc, neg_ℤ, ◌+ℤ◌, ◌*ℤ◌}
use lib.Signed.{◌≤ℤ◌, ◌<ℤ◌}
use Rattle.std.specs.Prelude.{nat_le, if◌then◌else◌}
use Rattle.std.specs.Int.{int_div_euclid, int_rem_euclid}
use Rattle.terrain_base.specs.Division.{IsFloor, IsCeil, IsRoot, floor_of, ceil_of, root_of}

-- the order is kept under a factor from 0 on, and turned under one below 0
pub mul_mono : (x : ℕ) (y z : ℤ) → y ≤ℤ z → (y *ℤ pos x) ≤ℤ (z *ℤ pos x)
mul_mono x y z h = omega (arith, ints, mul-le-mul_right x (le_out y z h))

pub mul_anti : (x : ℕ) (y z : ℤ) → y ≤ℤ z → (z *ℤ negsuc x) ≤ℤ (y *ℤ negsuc x)
mul_anti x y z h = omega (arith, ints, mul-le-mul_right (suc x) (le_out y z h))

-- a factor above 0 is taken off
pub mul_off : (k : ℕ) (x y : ℤ) → 0 < k → (x *ℤ pos k) ≤ℤ (y *ℤ pos k) → x ≤ℤ y
mul_off k x y p h =
    let e : (up x + down y) * k ≤ (up y + down x) * k = omega (arith, ints, h) in
    at_most_in x y (le_of_mul-le-mul_right e p)

-- one more of b
pub mul_next : (q b : ℤ) → (q +ℤ pos 1) *ℤ b ≡ (q *ℤ b) +ℤ b
mul_next q b = let e = sum_is_lem q (pos 1) in omega
    (arith, ints, ap (λ n. n * up b) e, ap (λ n. n * down b) e)

floor_by : (a : ℤ) (n : ℕ) → 0 < n → IsFloor a (pos n) (int_div_euclid a (pos n))
floor_by (pos a) n p = record { low = omega (arith, ints); high = omega (arith, ints) }
floor_by (negsuc a) n p = record { low = omega (arith, ints); high = omega (arith, ints) }

-- the quotient by Euclid is rounded down
euclid_floor : (a b : ℤ) → pos 0 <ℤ b → IsFloor a b (int_div_euclid a b)
euclid_floor a (pos n) p = floor_by a n (omega (arith, ints))
euclid_floor a (negsuc n) p = absurd (omega (arith, ints))

pub floor_is_euclid : (a b : ℤ) → floor_of a b ≡ int_div_euclid a b
unfolding floor_of
floor_is_euclid a b = refl

pub floor_is : (a b : ℤ) → pos 0 <ℤ b → IsFloor a b (floor_of a b)
unfolding floor_of
floor_is a b p = euclid_floor a b p

pub neg_mul : (a b : ℤ) → neg_ℤ a *ℤ b ≡ neg_ℤ (a *ℤ b)
neg_mul (pos zero) b = omega (arith, ints)
neg_mul (pos (suc n)) b = omega (arith, ints)
neg_mul (negsuc n) b = omega (arith, ints)

ceil_from : (a b q : ℤ) → IsFloor (neg_ℤ a) b q → IsCeil a b (neg_ℤ q)
ceil_from a b q f = record {
  low = rw (neg_mul q b) (omega (arith, ints, f.high));
  high = rw (neg_mul q b) (omega (arith, ints, f.low));
}

pub ceil_is : (a b : ℤ) → pos 0 <ℤ b → IsCeil a b (ceil_of a b)
unfolding ceil_of
ceil_is a b p = ceil_from a b (int_div_euclid (neg_ℤ a) b) (euclid_floor (neg_ℤ a) b p)

-- the greater of two whole quotients is at least one more of b
pub apart : (n : ℕ) (q r : ℤ) → q <ℤ r → ((q *ℤ pos n) +ℤ pos n) ≤ℤ (r *ℤ pos n)
apart n q r h = omega (arith, ints, mul_next q (pos n), mul_mono n (q +ℤ pos 1) r (omega (arith, ints, h)))

floor_not_below : (a : ℤ) (n : ℕ) (q r : ℤ) → IsFloor a (pos n) q → IsFloor a (pos n) r → r ≤ℤ q
floor_not_below a n q r f g = by_lt_z q r
    (λ less. absurd (omega (arith, ints, apart n q r less, f.high, g.low)))
    (λ fine. fine)

ceil_not_below : (a : ℤ) (n : ℕ) (q r : ℤ) → IsCeil a (pos n) q → IsCeil a (pos n) r → r ≤ℤ q
ceil_not_below a n q r f g = by_lt_z q r
    (λ less. absurd (omega (arith, ints, apart n q r less, f.high, g.low)))
    (λ fine. fine)

-- a number has one quotient rounded down, and one rounded up
pub floor_once : (a b q r : ℤ) → pos 0 <ℤ b → IsFloor a b q → IsFloor a b r → q ≡ r
floor_once a (pos n) q r p f g = omega (
  arith,
  ints,
  floor_not_below a n q r f g,
  floor_not_below a n r q g
      f,
)
floor_once a (negsuc n) q r p f g = absurd (omega (arith, ints))

pub ceil_once : (a b q r : ℤ) → pos 0 <ℤ b → IsCeil a b q → IsCeil a b r → q ≡ r
ceil_once a (pos n) q r p f g = omega (arith, ints, ceil_not_below a n q r f g, ceil_not_below a n r q g f)
ceil_once a (negsuc n) q r p f g = absurd (omega (arith, ints))

-- what is left by Euclid
left_by : (a : ℤ) (n : ℕ) → 0 < n → a ≡ (int_div_euclid a (pos n) *ℤ pos n) +ℤ int_rem_euclid a (pos n)
left_by (pos a) n p = omega (arith, ints)
left_by (negsuc a) n p = omega (arith, ints)

left_is : (a b : ℤ) → pos 0 <ℤ b → a ≡ (int_div_euclid a b *ℤ b) +ℤ int_rem_euclid a b
left_is a (pos n) p = left_by a n (omega (arith, ints))
left_is a (negsuc n) p = absurd (omega (arith, ints))

-- rounded up, a quotient is one more where something is left, and else the same
pub ceil_more : (a b : ℤ) → pos 0 <ℤ b → pos 0 <ℤ int_rem_euclid a b
    → IsCeil a b (int_div_euclid a b +ℤ pos 1)
ceil_more a b p r =
    let f = euclid_floor a b p in
    let e = left_is a b p in
    let n = mul_next (int_div_euclid a b) b in
    record {
      low = rw n (omega (arith, ints, f.low, e, r));
      high = rw n (omega (arith, ints, f.high));
    }

pub ceil_same : (a b : ℤ) → pos 0 <ℤ b → pos 0 ≤ℤ int_rem_euclid a b → int_rem_euclid a b ≤ℤ pos 0
    → IsCeil a b (int_div_euclid a b)
ceil_same a b p l h = let e = left_is a b p in record
    { low = omega (arith, ints, e, l, h, p); high = omega (arith, ints, e, l, h) }

-- a lesser square is of a lesser number
pub root_le : (x y : ℕ) → x * x ≤ y * y → x ≤ y
root_le x y h = elim (cases_lt y x) [
  | inl more ↦ absurd (omega (arith, mul-le-mul more more))
  | inr fine ↦ fine
]

-- a number has one root rounded down
root_not_below : (n q r : ℕ) → IsRoot n q → IsRoot n r → r ≤ q
root_not_below n q r f g = elim (cases_lt q r) [
  | inl more ↦ let h : q + 1 ≤ r = omega arith in absurd (omega (arith, mul-le-mul h h, f.high, g.low))
  | inr fine ↦ fine
]

pub root_once : (n q r : ℕ) → IsRoot n q → IsRoot n r → q ≡ r
root_once n q r f g = omega (arith, root_not_below n q r f g, root_not_below n r q g f)

root_more : (n r : ℕ) → IsRoot n r → (r + 1) * (r + 1) ≤ suc n → IsRoot (suc n) (r + 1)
root_more n r h e = record { low = e; high = omega (arith, h.high) }

root_same : (n r : ℕ) → IsRoot n r → suc n < (r + 1) * (r + 1) → IsRoot (suc n) r
root_same n r h e = record { low = omega (arith, h.low); high = e }

root_step : (n r : ℕ) → IsRoot n r
    → IsRoot (suc n) (if nat_le ((r + 1) * (r + 1)) (suc n) then r + 1 else r)
root_step n r h = elim (nat_le ((r + 1) * (r + 1)) (suc n)) as
    (λ b. nat_le ((r + 1) * (r + 1)) (suc n) ≡ b → IsRoot (suc n) (if b then r + 1 else r)) [
      | true ↦ λ e. root_more n r h (grind (arith, nat_tests, e))
      | false ↦ λ e. root_same n r h (grind (arith, nat_tests, e))
    ] refl

pub root_is : (n : ℕ) → IsRoot n (root_of n)
unfolding root_of
root_is zero = record { low = omega arith; high = omega arith }
root_is (suc n) = root_step n (root_of n) (root_is n)
