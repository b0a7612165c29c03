-- How large the ends get at each step of a half turn.
use Rattle.std.proofs.Common.{◌≡◌, ℕ, zero, suc, ◌+◌, ◌-◌, ◌*◌, ◌/◌, ◌%◌, ◌^◌, ◌<◌, ◌≤◌, refl, ap}
use Rattle.std.proofs.Common.{arith, add-one, Bool, true, false}
use Rattle.std.proofs.lemmas.Int.{ints, clamps, by_lt_z}
use Rattle.std.proofs.lemmas.Grind.{div_ceil_times}
use Rattle.std.proofs.Math.Nat.{mul-le-mul, le_of_mul-le-mul_right, pow-le-pow_right, pow-succ'}
use Rattle.std.specs.Prelude.{ℤ, pos, negsuc, ◌+ℤ◌, ◌-ℤ◌, ◌*ℤ◌, ◌≤ℤ◌, ◌<ℤ◌, if◌then◌else◌, ◌==◌}
use Rattle.std.specs.Int.{int_min, int_max, div_ceil}
use Rattle.polynomial.proofs.Signs.{times_nonneg}
use Rattle.terrain_base.specs.Division.{ceil_of}
use Rattle.terrain_base.proofs.Quotients.{apart, floor_is, ceil_is}
use Rattle.whole_interval.specs.declared.interval.Interval.{Interval}
use Rattle.whole_interval.specs.Interval.{IsWithin, least_of, greatest_of, add_of, sub_of, negated_of}
use Rattle.whole_interval.specs.Interval.{mul_of, div_whole_of}
use Rattle.whole_interval.specs.HalfTurn.{IsUpTo, one_of, angle_of, next_of, term_of, alternated_of}
use Rattle.whole_interval.specs.HalfTurn.{partial_of, series_of, octant_sine_of, octant_cosine_of, pi_low}
use Rattle.whole_interval.specs.HalfTurn.{pi_high}
use Rattle.whole_interval.proofs.Bounds.{floor_from_nought}
use Rattle.whole_interval.proofs.Enclosures.{same_ends, mul_ordered}
use Rattle.whole_interval.proofs.Enclosures.{div_whole_ordered}

-- a quotient rounded up is at most a whole number that is at least the quotient
pub ceil_at_most : (a : ℤ) (n : ℕ) (q : ℤ) → 0 < n → a ≤ℤ (q *ℤ pos n) → ceil_of a (pos n) ≤ℤ q
ceil_at_most a n q p h = let c = ceil_is a (pos n) (omega (arith, ints)) in by_lt_z q (ceil_of a (pos n))
    (λ less. absurd (omega (arith, ints, apart n q (ceil_of a (pos n)) less, c.low, h)))
    (λ fine. fine)

-- a product of numbers from 0 on
between : (x y : ℤ) (m n : ℕ) → pos 0 ≤ℤ x → x ≤ℤ pos m → pos 0 ≤ℤ y → y ≤ℤ pos n → (x *ℤ y) ≤ℤ pos (m * n)
between (pos x) (pos y) m n p h q k =
    let a : x ≤ m = omega (arith, ints, h) in
    let b : y ≤ n = omega (arith, ints, k) in
    omega (arith, ints, mul-le-mul a b)
between (pos x) (negsuc y) m n p h q k = absurd (omega (arith, ints))
between (negsuc x) y m n p h q k = absurd (omega (arith, ints))

least_from : (p q r s : ℤ) → pos 0 ≤ℤ p → pos 0 ≤ℤ q → pos 0 ≤ℤ r → pos 0 ≤ℤ s → pos 0 ≤ℤ least_of p q r s
least_from p q r s a b c d = two (int_min p q) (int_min r s) (two p q a b) (two r s c d)
  where
    two : (p q : ℤ) → pos 0 ≤ℤ p → pos 0 ≤ℤ q → pos 0 ≤ℤ int_min p q
    two p q h k = omega (arith, ints, clamps, h, k)

greatest_to : (m p q r s : ℤ) → p ≤ℤ m → q ≤ℤ m → r ≤ℤ m → s ≤ℤ m → greatest_of p q r s ≤ℤ m
greatest_to m p q r s a b c d = two (int_max p q) (int_max r s) (two p q a b) (two r s c d)
  where
    two : (p q : ℤ) → p ≤ℤ m → q ≤ℤ m → int_max p q ≤ℤ m
    two p q h k = omega (arith, ints, clamps, h, k)

-- a product with a number from 0 to 1 gets no larger
mul_low : (k : ℕ) (a b : Interval) → IsUpTo k a → IsUpTo 48 b → pos 0 ≤ℤ (mul_of a b).lo
unfolding mul_of
mul_low k a b h g =
    let ah : pos 0 ≤ℤ a.hi = omega (arith, ints, h.low, h.ordered) in
    let bh : pos 0 ≤ℤ b.hi = omega (arith, ints, g.low, g.ordered) in
    floor_from_nought _ (pos (2 ^ 48)) _
    (least_from _ _ _ _ (times_nonneg a.lo b.lo h.low g.low) (times_nonneg a.lo b.hi h.low bh)
    (times_nonneg a.hi b.lo ah g.low) (times_nonneg a.hi b.hi ah bh))
    (omega (arith, ints)) (floor_is _ (pos (2 ^ 48)) (omega (arith, ints)))

mul_high : (k : ℕ) (a b : Interval) → IsUpTo k a → IsUpTo 48 b → (mul_of a b).hi ≤ℤ pos (2 ^ k)
unfolding mul_of
mul_high k a b h g =
    let ah : pos 0 ≤ℤ a.hi = omega (arith, ints, h.low, h.ordered) in
    let bh : pos 0 ≤ℤ b.hi = omega (arith, ints, g.low, g.ordered) in
    let al : a.lo ≤ℤ pos (2 ^ k) = omega (arith, ints, h.high, h.ordered) in
    let bl : b.lo ≤ℤ pos (2 ^ 48) = omega (arith, ints, g.high, g.ordered) in
    ceil_at_most _ (2 ^ 48) (pos (2 ^ k)) (omega arith) (greatest_to (pos (2 ^ k * 2 ^ 48)) _ _ _ _
    (between a.lo b.lo (2 ^ k) (2 ^ 48) h.low al g.low bl)
    (between a.lo b.hi (2 ^ k) (2 ^ 48) h.low al bh g.high)
    (between a.hi b.lo (2 ^ k) (2 ^ 48) ah h.high g.low bl)
    (between a.hi b.hi (2 ^ k) (2 ^ 48) ah h.high bh g.high))

pub mul_up_to : (k : ℕ) (a b : Interval) → IsUpTo k a → IsUpTo 48 b → IsUpTo k (mul_of a b)
mul_up_to k a b h g = record {
  low = mul_low k a b h g;
  ordered = mul_ordered a b h.ordered g.ordered;
  high = mul_high k a b h g;
}

-- over a whole number from 2 on it is at most half as large
div_low : (k c : ℕ) (a : Interval) → 2 ≤ c → IsUpTo (suc k) a → pos 0 ≤ℤ (div_whole_of a c).lo
unfolding div_whole_of
div_low k c a p h =
    let c_is : pos 0 <ℤ pos c = omega (arith, ints, p) in
    floor_from_nought a.lo (pos c) _ h.low c_is (floor_is a.lo (pos c) c_is)

div_high : (k c : ℕ) (a : Interval) → 2 ≤ c → IsUpTo (suc k) a → (div_whole_of a c).hi ≤ℤ pos (2 ^ k)
unfolding div_whole_of
div_high k c a p h =
    let more : 2 ^ k * 2 ≤ 2 ^ k * c = mul-le-mul (omega arith) p in
    ceil_at_most a.hi c (pos (2 ^ k)) (omega arith) (omega (arith, ints, h.high, more, pow-succ' 2 k))

pub div_up_to : (k c : ℕ) (a : Interval) → 2 ≤ c → IsUpTo (suc k) a → IsUpTo k (div_whole_of a c)
div_up_to k c a p h = record {
  low = div_low k c a p h;
  ordered = div_whole_ordered a c (omega arith)
      h.ordered;
  high = div_high k c a p h;
}

-- the divisor of the next term
pub from_two : (j from : ℕ) → 0 < from → 2 ≤ (2 * j + from) * (2 * j + from + 1)
from_two j from p = let a : 1 ≤ 2 * j + from = omega arith in let b : 2 ≤ 2 * j + from + 1 = omega arith in
    omega (arith, mul-le-mul a b)

pub next_up_to : (k : ℕ) (term square : Interval) (from j : ℕ) → 0 < from → IsUpTo (suc k) term
    → IsUpTo 48 square → IsUpTo k (next_of term square from j)
unfolding next_of
next_up_to k term square from j p h g = div_up_to k _ (mul_of term square) (from_two j from p)
    (mul_up_to (suc k) term square h g)

-- term j is at most 2^(48 - j)
pub term_up_to : (j k : ℕ) (first square : Interval) (from : ℕ) → k + j ≡ 48 → 0 < from → IsUpTo 48 first
    → IsUpTo 48 square → IsUpTo k (term_of first square from j)
unfolding term_of
term_up_to zero k first square from e p h g = let same : k ≡ 48 = omega arith in rw same h
term_up_to (suc j) k first square from e p h g =
    next_up_to k (term_of first square from j) square from j p
    (term_up_to j (suc k) first square from (omega arith) p h g) g

-- so the sum of the terms 0 to j is at most 2^49 - 2^(48 - j)
pub record IsPartial (k : ℕ) (a : Interval) : Type 0 where
  pub low : (pos (2 ^ k) -ℤ pos (2 ^ 49)) ≤ℤ a.lo
  pub ordered : a.lo ≤ℤ a.hi
  pub high : (a.hi +ℤ pos (2 ^ k)) ≤ℤ pos (2 ^ 49)

sub_partial : (k : ℕ) (sum term : Interval) → IsPartial (suc k) sum → IsUpTo k term
    → IsPartial k (sub_of sum term)
unfolding sub_of
sub_partial k sum term h g = record {
  low = omega (arith, ints, h.low, g.high, pow-succ' 2 k);
  ordered = omega (arith, ints, h.ordered, g.ordered);
  high = omega (arith, ints, h.high, g.low, pow-succ' 2 k);
}

add_partial : (k : ℕ) (sum term : Interval) → IsPartial (suc k) sum → IsUpTo k term
    → IsPartial k (add_of sum term)
unfolding add_of
add_partial k sum term h g = record {
  low = omega (arith, ints, h.low, g.low, pow-succ' 2 k);
  ordered = omega (arith, ints, h.ordered, g.ordered);
  high = omega (arith, ints, h.high, g.high, pow-succ' 2 k);
}

alternated_by : (c : Bool) (k : ℕ) (sum term : Interval) → IsPartial (suc k) sum → IsUpTo k term
    → IsPartial k (if c then sub_of sum term else add_of sum term)
alternated_by true k sum term h g = sub_partial k sum term h g
alternated_by false k sum term h g = add_partial k sum term h g

pub alternated_partial : (k : ℕ) (sum term : Interval) (j : ℕ) → IsPartial (suc k) sum → IsUpTo k term
    → IsPartial k (alternated_of sum term j)
unfolding alternated_of
alternated_partial k sum term j h g = alternated_by (j % 2 == 0) k sum term h g

first_partial : (a : Interval) → IsUpTo 48 a → IsPartial 48 a
first_partial a h = record {
  low = omega (arith, ints, h.low);
  ordered = h.ordered;
  high = omega
      (arith, ints, h.high);
}

pub partial_is : (j k : ℕ) (first square : Interval) (from : ℕ) → k + j ≡ 48 → 0 < from → IsUpTo 48 first
    → IsUpTo 48 square → IsPartial k (partial_of first square from j)
unfolding partial_of
partial_is zero k first square from e p h g = let same : k ≡ 48 = omega arith in rw same
    (first_partial first h)
partial_is (suc j) k first square from e p h g = alternated_partial k _ _ j
    (partial_is j (suc k) first square from (omega arith) p h g)
    (term_up_to (suc j) k first square from e p h g)

pub partial_within : (k : ℕ) (a : Interval) → IsPartial k a → IsWithin 50 a
partial_within k a h = record {
  low = omega (arith, ints, h.low);
  ordered = h.ordered;
  high = omega (arith, ints, h.high);
}

pub up_to_within : (a : Interval) → IsUpTo 48 a → IsWithin 50 a
up_to_within a h = record {
  low = omega (arith, ints, h.low);
  ordered = h.ordered;
  high = omega (arith, ints, h.high);
}

-- the ends of a series
last_ordered : (sum term : Interval) → sum.lo ≤ℤ sum.hi → pos 0 ≤ℤ term.hi
    → sum.lo ≤ℤ (alternated_of sum term 7).hi
unfolding alternated_of add_of
last_ordered sum term h k = omega (arith, ints, h, k)

eighth_ordered : (first square : Interval) (from : ℕ) → 0 < from → IsUpTo 48 first → IsUpTo 48 square
    → (partial_of first square from 7).lo ≤ℤ (partial_of first square from 8).hi
unfolding partial_of
eighth_ordered first square from p h g =
    let term = term_up_to 8 40 first square from (omega arith) p h g in
    last_ordered (partial_of first square from 7) (term_of first square from 8)
    (partial_is 7 41 first square from (omega arith) p h g).ordered
    (omega (arith, ints, term.low, term.ordered))

pub series_within : (first square : Interval) (from : ℕ) → 0 < from → IsUpTo 48 first → IsUpTo 48 square
    → IsWithin 50 (series_of first square from)
unfolding series_of
series_within first square from p h g =
    let eight = partial_is 7 41 first square from (omega arith) p h g in
    let nine = partial_is 8 40 first square from (omega arith) p h g in
    record {
      low = (partial_within 41 (partial_of first square from 7) eight).low;
      ordered = eighth_ordered first square from p h g;
      high = (partial_within 40 (partial_of first square from 8) nine).high;
    }

pub one_up_to : IsUpTo 48 one_of
one_up_to = record { low = omega (arith, ints); ordered = omega (arith, ints); high = omega (arith, ints) }

-- the angle is at most 1
angle_high : (x m c y : ℕ) → 0 < y → c * y < x + y → x + y ≤ m * y → c ≤ m
angle_high x m c y p h k = le_of_mul-le-mul_right (omega (arith, h, k)) p

angle_ordered : (x z c q y : ℕ) → 0 < y → q * y ≤ x → x ≤ z → z ≤ c * y → q ≤ c
angle_ordered x z c q y p h k l = le_of_mul-le-mul_right (omega (arith, h, k, l)) p

pub quotient_down : (x y : ℕ) → 0 < y → x / y * y ≤ x
quotient_down x y p = omega arith

pub angle_up_to : (t d : ℕ) → 0 < d → 2 * t ≤ d → IsUpTo 48 (angle_of t d)
unfolding angle_of
angle_up_to t d p h =
    let y : 0 < 2 * d = omega arith in
    let c = div_ceil_times (pi_high * t) (2 * d) y in
    let high = angle_high (pi_high * t) (2 ^ 48) (div_ceil (pi_high * t) (2 * d)) (2 * d) y c.1
    (omega arith) in
    let ordered = angle_ordered (pi_low * t) (pi_high * t) (div_ceil (pi_high * t) (2 * d))
    (pi_low * t / (2 * d)) (2 * d) y
    (quotient_down (pi_low * t) (2 * d) y) (omega arith) c.0 in
    record {
      low = omega (arith, ints);
      ordered = omega (arith, ints, ordered);
      high = omega
          (arith, ints, high);
    }

-- for the code's loop
smaller : (k : ℕ) → k ≤ 48 → 2 ^ k ≤ 2 ^ 48
smaller k p = pow-le-pow_right (omega arith) p

pub term_at : (j : ℕ) (first square : Interval) (from : ℕ) → j ≤ 8 → 0 < from → IsUpTo 48 first
    → IsUpTo 48 square → IsUpTo 48 (term_of first square from j)
term_at j first square from l p h g =
    let k : 48 - j ≤ 48 = omega arith in
    let t = term_up_to j (48 - j) first square from (omega arith) p h g in
    record { low = t.low; ordered = t.ordered; high = omega (arith, ints, t.high, smaller (48 - j) k) }

pub partial_at : (j : ℕ) (first square : Interval) (from : ℕ) → j ≤ 8 → 0 < from → IsUpTo 48 first
    → IsUpTo 48 square → IsWithin 50 (partial_of first square from j)
partial_at j first square from l p h g = partial_within (48 - j) _
    (partial_is j (48 - j) first square from (omega arith) p h g)

pub term_next : (j : ℕ) (first square : Interval) (from : ℕ)
    → next_of (term_of first square from j) square from j ≡ term_of first square from (j + 1)
unfolding term_of
term_next j first square from = rw add-one refl

pub partial_next : (j : ℕ) (first square : Interval) (from : ℕ)
    → alternated_of (partial_of first square from j) (term_of first square from (j + 1)) j
    ≡ partial_of first square from (j + 1)
unfolding partial_of
partial_next j first square from = rw add-one refl

pub negated_within : (k : ℕ) (a : Interval) → IsWithin k a → IsWithin k (negated_of a)
unfolding negated_of
negated_within k a h = record {
  low = omega (arith, ints, h.high);
  ordered = omega (arith, ints, h.ordered);
  high = omega (arith, ints, h.low);
}

pub negated_is : (a : Interval)
    → ◌≡◌ {A = Interval} (record { lo = pos 0 -ℤ a.hi; hi = pos 0 -ℤ a.lo }) (negated_of a)
unfolding negated_of
negated_is a = same_ends _ _ _ (omega (arith, ints)) (omega (arith, ints))

pub series_is : (first square : Interval) (from : ℕ) (eight nine : Interval)
    → eight ≡ partial_of first square from 7 → nine ≡ partial_of first square from 8
    → ◌≡◌ {A = Interval} (record { lo = eight.lo; hi = nine.hi }) (series_of first square from)
unfolding series_of
series_is first square from eight nine e f = same_ends _ _ _ (ap (λ (a : Interval). a.lo) e)
    (ap (λ (a : Interval). a.hi) f)

pub octant_sine_is : (t d : ℕ) (x square : Interval) → x ≡ angle_of t d → square ≡ mul_of x x
    → series_of x square 2 ≡ octant_sine_of t d
unfolding octant_sine_of
octant_sine_is t d x square e f = rw (f, e) refl

pub octant_cosine_is : (t d : ℕ) (x square : Interval) → x ≡ angle_of t d → square ≡ mul_of x x
    → series_of one_of square 1 ≡ octant_cosine_of t d
unfolding octant_cosine_of
octant_cosine_is t d x square e f = rw (f, e) refl
