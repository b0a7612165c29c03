-- Intervals of whole numbers, in units of 2^-48, and their operations, rounded outward.
use Rattle.std.specs.Prelude.{ℕ, ℤ, pos, ◌+◌, ◌*◌, ◌^◌, ◌<◌, ◌≤◌, ◌==◌, ◌+ℤ◌, ◌-ℤ◌, ◌*ℤ◌, ◌≤ℤ◌, neg_ℤ}
use Rattle.std.specs.Prelude.{unsigned_abs, int_lt, if◌then◌else◌}
use Rattle.std.specs.Int.{int_min, int_max}
use Rattle.terrain_base.specs.Division.{floor_of, ceil_of, root_of}
use Rattle.whole_interval.specs.declared.interval.Interval.{Interval}
use Rattle.whole_interval.specs.Fraction.{Fraction}

-- an interval stands for the numbers from lo / 2^48 to hi / 2^48: the fraction lies there
pub record IntervalHolds (a : Interval) (f : Fraction) : Type 0 where
  pub low : (a.lo *ℤ pos f.denominator) ≤ℤ (f.numerator *ℤ pos (2 ^ 48))
  pub high : (f.numerator *ℤ pos (2 ^ 48)) ≤ℤ (a.hi *ℤ pos f.denominator)

-- lo is at most hi, and both are at most 2^k in size
pub record IsWithin (k : ℕ) (a : Interval) : Type 0 where
  pub low : neg_ℤ (pos (2 ^ k)) ≤ℤ a.lo
  pub ordered : a.lo ≤ℤ a.hi
  pub high : a.hi ≤ℤ pos (2 ^ k)

-- the least of four
abbrev pub least_of : ℤ → ℤ → ℤ → ℤ → ℤ
least_of p q r s = int_min (int_min p q) (int_min r s)

-- the greatest of four
abbrev pub greatest_of : ℤ → ℤ → ℤ → ℤ → ℤ
greatest_of p q r s = int_max (int_max p q) (int_max r s)

-- r is the square root of n rounded up: the least whole number whose square is at least n
pub record IsRootUp (n r : ℕ) : Type 0 where
  pub low : (k : ℕ) → k < r → k * k < n
  pub high : n ≤ r * r

-- the square root of n rounded up
abbrev pub root_up_of : ℕ → ℕ
root_up_of n = if root_of n * root_of n == n then root_of n else root_of n + 1

-- the sums
unfoldable pub add_of : Interval → Interval → Interval
add_of a b = record { lo = a.lo +ℤ b.lo; hi = a.hi +ℤ b.hi }

-- the differences
unfoldable pub sub_of : Interval → Interval → Interval
sub_of a b = record { lo = a.lo -ℤ b.hi; hi = a.hi -ℤ b.lo }

-- the numbers with their signs changed
unfoldable pub negated_of : Interval → Interval
negated_of a = record { lo = neg_ℤ a.hi; hi = neg_ℤ a.lo }

-- the products: the least and the greatest of two ends, over 2^48
unfoldable pub mul_of : Interval → Interval → Interval
mul_of a b = record {
  lo = floor_of (least_of (a.lo *ℤ b.lo) (a.lo *ℤ b.hi) (a.hi *ℤ b.lo) (a.hi *ℤ b.hi)) (pos (2 ^ 48));
  hi = ceil_of (greatest_of (a.lo *ℤ b.lo) (a.lo *ℤ b.hi) (a.hi *ℤ b.lo) (a.hi *ℤ b.hi)) (pos (2 ^ 48));
}

-- the quotients by the whole number k, which is above 0
unfoldable pub div_whole_of : Interval → ℕ → Interval
div_whole_of a k = record { lo = floor_of a.lo (pos k); hi = ceil_of a.hi (pos k) }

-- the quotients by an interval above 0: the low end over the high end of b, or over its low end where the
-- quotient is below 0; the high end over the low end of b, or over its high end where the quotient is below 0
unfoldable pub div_pos_of : Interval → Interval → Interval
div_pos_of a b = record {
  lo = floor_of (a.lo *ℤ pos (2 ^ 48)) (if int_lt a.lo (pos 0) then b.lo else b.hi);
  hi = ceil_of (a.hi *ℤ pos (2 ^ 48)) (if int_lt a.hi (pos 0) then b.hi else b.lo);
}

-- the square roots, for lo from 0 on
unfoldable pub sqrt_of : Interval → Interval
sqrt_of a = record {
  lo = pos (root_of (unsigned_abs a.lo * 2 ^ 48));
  hi = pos (root_up_of (unsigned_abs a.hi * 2 ^ 48));
}
