-- How large the ends get at each operation.
use Rattle.std.proofs.Common.{ℕ, ◌+◌, ◌*◌, ◌^◌, ◌<◌, ◌≤◌, arith}
use Rattle.std.proofs.lemmas.Int.{ints, clamps, by_lt_z, unsigned_abs-mul}
use Rattle.std.proofs.Math.Nat.{mul-le-mul}
use Rattle.std.specs.Prelude.{ℤ, pos, ◌*ℤ◌, ◌≤ℤ◌, neg_ℤ, unsigned_abs}
use Rattle.std.specs.Int.{int_min, int_max}
use Rattle.terrain_base.specs.Division.{floor_of}
use Rattle.terrain_base.proofs.Quotients.{apart, floor_is}
use Rattle.whole_interval.specs.declared.interval.Interval.{Interval}
use Rattle.whole_interval.specs.Interval.{IsWithin, least_of, greatest_of, add_of, mul_of, negated_of}
use Rattle.whole_interval.proofs.Enclosures.{mul_ordered}
use Rattle.whole_interval.proofs.Sizes.{ceil_at_most}
use Rattle.ecef_boxes.specs.Bounds.{IsInside}

-- a quotient rounded down is at least a whole number that is at most the quotient
pub floor_at_least : (a : ℤ) (n : ℕ) (q : ℤ) → 0 < n → (q *ℤ pos n) ≤ℤ a → q ≤ℤ floor_of a (pos n)
floor_at_least a n q p h = let f = floor_is a (pos n) (omega (arith, ints)) in by_lt_z (floor_of a (pos n)) q
    (λ less. absurd (omega (arith, ints, apart n (floor_of a (pos n)) q less, f.high, h)))
    (λ fine. fine)

pub size_mul : (x y : ℤ) (m n : ℕ) → unsigned_abs x ≤ m → unsigned_abs y ≤ n
    → unsigned_abs (x *ℤ y) ≤ m * n
size_mul x y m n h k = omega (arith, unsigned_abs-mul x y, mul-le-mul h k)

pub from_size : (x : ℤ) (m : ℕ) → unsigned_abs x ≤ m → (neg_ℤ (pos m) ≤ℤ x) × (x ≤ℤ pos m)
from_size x m h = omega (arith, ints, h)

pub to_size : (x : ℤ) (m : ℕ) → neg_ℤ (pos m) ≤ℤ x → x ≤ℤ pos m → unsigned_abs x ≤ m
to_size x m h k = omega (arith, ints, h, k)

pub lo_size : (m : ℕ) (a : Interval) → IsInside m a → unsigned_abs a.lo ≤ m
lo_size m a h = omega (arith, ints, h.low, h.ordered, h.high)

pub hi_size : (m : ℕ) (a : Interval) → IsInside m a → unsigned_abs a.hi ≤ m
hi_size m a h = omega (arith, ints, h.low, h.ordered, h.high)

pub within_power : (m k : ℕ) (a : Interval) → m ≤ 2 ^ k → IsInside m a → IsWithin k a
within_power m k a p h = record {
  low = omega (arith, ints, h.low);
  ordered = h.ordered;
  high = omega (arith, ints, h.high);
}

least_from : (t p q r s : ℤ) → t ≤ℤ p → t ≤ℤ q → t ≤ℤ r → t ≤ℤ s → t ≤ℤ least_of p q r s
least_from t p q r s a b c d = two (int_min p q) (int_min r s) (two p q a b) (two r s c d)
  where
    two : (p q : ℤ) → t ≤ℤ p → t ≤ℤ q → t ≤ℤ int_min p q
    two p q h k = omega (arith, ints, clamps, h, k)

greatest_to : (t p q r s : ℤ) → p ≤ℤ t → q ≤ℤ t → r ≤ℤ t → s ≤ℤ t → greatest_of p q r s ≤ℤ t
greatest_to t p q r s a b c d = two (int_max p q) (int_max r s) (two p q a b) (two r s c d)
  where
    two : (p q : ℤ) → p ≤ℤ t → q ≤ℤ t → int_max p q ≤ℤ t
    two p q h k = omega (arith, ints, clamps, h, k)

corner_low : (x y : ℤ) (m n p : ℕ) → unsigned_abs x ≤ m → unsigned_abs y ≤ n → m * n ≤ p
    → neg_ℤ (pos p) ≤ℤ (x *ℤ y)
corner_low x y m n p h k l = (from_size (x *ℤ y) p (omega (arith, size_mul x y m n h k, l))).0

corner_high : (x y : ℤ) (m n p : ℕ) → unsigned_abs x ≤ m → unsigned_abs y ≤ n → m * n ≤ p
    → (x *ℤ y) ≤ℤ pos p
corner_high x y m n p h k l = (from_size (x *ℤ y) p (omega (arith, size_mul x y m n h k, l))).1

mul_low : (m n p : ℕ) (a b : Interval) → IsInside m a → IsInside n b → m * n ≤ p * 2 ^ 48
    → neg_ℤ (pos p) ≤ℤ (mul_of a b).lo
unfolding mul_of
mul_low m n p a b h k l =
    let al = lo_size m a h in
    let ah = hi_size m a h in
    let bl = lo_size n b k in
    let bh = hi_size n b k in
    let least = least_from (neg_ℤ (pos (p * 2 ^ 48))) _ _ _ _
    (corner_low a.lo b.lo m n (p * 2 ^ 48) al bl l) (corner_low a.lo b.hi m n (p * 2 ^ 48) al bh l)
    (corner_low a.hi b.lo m n (p * 2 ^ 48) ah bl l) (corner_low a.hi b.hi m n (p * 2 ^ 48) ah bh l) in
    floor_at_least _ (2 ^ 48) (neg_ℤ (pos p)) (omega arith) (omega (arith, ints, least))

mul_high : (m n p : ℕ) (a b : Interval) → IsInside m a → IsInside n b → m * n ≤ p * 2 ^ 48
    → (mul_of a b).hi ≤ℤ pos p
unfolding mul_of
mul_high m n p a b h k l =
    let al = lo_size m a h in
    let ah = hi_size m a h in
    let bl = lo_size n b k in
    let bh = hi_size n b k in
    let greatest = greatest_to (pos (p * 2 ^ 48)) _ _ _ _
    (corner_high a.lo b.lo m n (p * 2 ^ 48) al bl l) (corner_high a.lo b.hi m n (p * 2 ^ 48) al bh l)
    (corner_high a.hi b.lo m n (p * 2 ^ 48) ah bl l) (corner_high a.hi b.hi m n (p * 2 ^ 48) ah bh l) in
    ceil_at_most _ (2 ^ 48) (pos p) (omega arith) (omega (arith, ints, greatest))

-- the bound of a product is the product of the bounds
pub mul_inside : (m n p : ℕ) (a b : Interval) → IsInside m a → IsInside n b → m * n ≤ p * 2 ^ 48
    → IsInside p (mul_of a b)
mul_inside m n p a b h k l = record {
  low = mul_low m n p a b h k l;
  ordered = mul_ordered a b h.ordered k.ordered;
  high = mul_high m n p a b h k l;
}

-- the bound of a sum is the sum of the bounds
pub add_inside : (m n p : ℕ) (a b : Interval) → IsInside m a → IsInside n b → m + n ≤ p
    → IsInside p (add_of a b)
unfolding add_of
add_inside m n p a b h k l = record {
  low = omega (arith, ints, h.low, k.low);
  ordered = omega (arith, ints, h.ordered, k.ordered);
  high = omega (arith, ints, h.high, k.high);
}

pub negated_inside : (m : ℕ) (a : Interval) → IsInside m a → IsInside m (negated_of a)
unfolding negated_of
negated_inside m a h = record {
  low = omega (arith, ints, h.high);
  ordered = omega (arith, ints, h.ordered);
  high = omega (arith, ints, h.low);
}
