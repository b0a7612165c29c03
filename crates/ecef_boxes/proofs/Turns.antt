-- Bounds of sines and cosines are at most 9/8 in size.
use Rattle.std.proofs.Common.{◌≡◌, ℕ, suc, ◌+◌, ◌-◌, ◌*◌, ◌/◌, ◌%◌, ◌^◌, ◌<◌, ◌≤◌, refl, arith, Bool, true, false}
use Rattle.std.proofs.lemmas.Int.{ints}
use Rattle.std.proofs.lemmas.Bool.Decides.{nat_tests}
use Rattle.std.proofs.Math.Nat.{mul-le-mul}
use Rattle.std.specs.Prelude.{ℤ, pos, ◌-ℤ◌, ◌≤ℤ◌, if◌then◌else◌, ◌==◌, nat_le}
use Rattle.std.proofs.lemmas.Bool.{leb-false}
use Rattle.whole_interval.specs.declared.interval.Interval.{Interval}
use Rattle.whole_interval.specs.declared.sine_cosine.SineCosine.{SineCosine}
use Rattle.whole_interval.specs.Interval.{add_of, sub_of, mul_of, div_whole_of}
use Rattle.whole_interval.specs.Sine.{within_turn}
use Rattle.whole_interval.specs.HalfTurn.{IsUpTo, one_of, angle_of, next_of, term_of, alternated_of}
use Rattle.whole_interval.specs.HalfTurn.{partial_of, series_of, octant_sine_of, octant_cosine_of}
use Rattle.whole_interval.specs.HalfTurn.{quarter_sine_of, quarter_cosine_of, turned_of, turn_of}
use Rattle.whole_interval.specs.HalfTurn.{half_turn_of}
use Rattle.whole_interval.proofs.Enclosures.{div_whole_ordered}
use Rattle.whole_interval.proofs.Sizes.{angle_up_to, mul_up_to, next_up_to, one_up_to, series_within, ceil_at_most}
use Rattle.ecef_boxes.specs.Bounds.{IsInside}
use Rattle.ecef_boxes.proofs.Sizes.{floor_at_least, negated_inside}

-- over a whole number from 8 on it is at most an eighth as large
div_low : (k c : ℕ) (a : Interval) → 8 ≤ c → IsUpTo k a → pos 0 ≤ℤ (div_whole_of a c).lo
unfolding div_whole_of
div_low k c a p h = floor_at_least a.lo c (pos 0) (omega (arith, p)) (omega (arith, ints, h.low))

div_high : (k l c : ℕ) (a : Interval) → 8 ≤ c → 2 ^ l ≡ 8 * 2 ^ k → IsUpTo l a
    → (div_whole_of a c).hi ≤ℤ pos (2 ^ k)
unfolding div_whole_of
div_high k l c a p e h =
    let more : 2 ^ k * 8 ≤ 2 ^ k * c = mul-le-mul (omega arith) p in
    ceil_at_most a.hi c (pos (2 ^ k)) (omega (arith, p)) (omega (arith, ints, h.high, more, e))

eighth_up_to : (k l c : ℕ) (a : Interval) → 8 ≤ c → 2 ^ l ≡ 8 * 2 ^ k → IsUpTo l a
    → IsUpTo k (div_whole_of a c)
eighth_up_to k l c a p e h = record {
  low = div_low l c a p h;
  ordered = div_whole_ordered a c (omega (arith, p)) h.ordered;
  high = div_high k l c a p e h;
}

from_twelve : (j from : ℕ) → 0 < j → 0 < from → 8 ≤ (2 * j + from) * (2 * j + from + 1)
from_twelve j from p q =
    let a : 3 ≤ 2 * j + from = omega arith in
    let b : 4 ≤ 2 * j + from + 1 = omega arith in
    omega (arith, mul-le-mul a b)

-- the first step halves at least, and each later one leaves an eighth at most
later_up_to : (j k l : ℕ) (first square : Interval) (from : ℕ) → 0 < j → 2 ^ l ≡ 8 * 2 ^ k → 0 < from
    → IsUpTo l (term_of first square from j) → IsUpTo 48 square
    → IsUpTo k (term_of first square from (suc j))
unfolding term_of next_of
later_up_to j k l first square from i e p h g =
    eighth_up_to k l _ (mul_of (term_of first square from j) square) (from_twelve j from i p) e
    (mul_up_to l (term_of first square from j) square h g)

record Terms (first square : Interval) (from : ℕ) : Type 0 where
  whole : IsUpTo 48 first
  halved : IsUpTo 47 (term_of first square from 1)
  second : IsUpTo 44 (term_of first square from 2)
  third : IsUpTo 41 (term_of first square from 3)
  fourth : IsUpTo 38 (term_of first square from 4)
  fifth : IsUpTo 35 (term_of first square from 5)
  sixth : IsUpTo 32 (term_of first square from 6)
  seventh : IsUpTo 29 (term_of first square from 7)
  eighth : IsUpTo 26 (term_of first square from 8)

first_term : (first square : Interval) (from : ℕ) → 0 < from → IsUpTo 48 first → IsUpTo 48 square
    → IsUpTo 47 (term_of first square from 1)
unfolding term_of
first_term first square from p h g = next_up_to 47 first square from 0 p h g

terms_up_to : (first square : Interval) (from : ℕ) → 0 < from → IsUpTo 48 first → IsUpTo 48 square
    → Terms first square from
terms_up_to first square from p h g =
    let halved_bound = first_term first square from p h g in
    let second_bound = later_up_to 1 44 47 first square from (omega arith) refl p halved_bound g in
    let third_bound = later_up_to 2 41 44 first square from (omega arith) refl p second_bound g in
    let fourth_bound = later_up_to 3 38 41 first square from (omega arith) refl p third_bound g in
    let fifth_bound = later_up_to 4 35 38 first square from (omega arith) refl p fourth_bound g in
    let sixth_bound = later_up_to 5 32 35 first square from (omega arith) refl p fifth_bound g in
    let seventh_bound = later_up_to 6 29 32 first square from (omega arith) refl p sixth_bound g in
    let eighth_bound = later_up_to 7 26 29 first square from (omega arith) refl p seventh_bound g in
    record {
      whole = h;
      halved = halved_bound;
      second = second_bound;
      third = third_bound;
      fourth = fourth_bound;
      fifth = fifth_bound;
      sixth = sixth_bound;
      seventh = seventh_bound;
      eighth = eighth_bound;
    }

-- only terms that are subtracted bring the sum of eight down, and only those that are added bring that of nine up
eight_low : (first square : Interval) (from : ℕ) → Terms first square from
    → (pos 0 -ℤ pos (9 * 2 ^ 45)) ≤ℤ (partial_of first square from 7).lo
unfolding partial_of alternated_of add_of sub_of
eight_low first square from t = omega (
  arith,
  ints,
  t.whole.low,
  t.halved.high,
  t.second.low,
  t.third.high,
  t.fourth.low,
  t.fifth.high,
  t.sixth.low,
  t.seventh.high,
)

nine_high : (first square : Interval) (from : ℕ) → Terms first square from
    → (partial_of first square from 8).hi ≤ℤ pos (9 * 2 ^ 45)
unfolding partial_of alternated_of add_of sub_of
nine_high first square from t = omega (
  arith,
  ints,
  t.whole.high,
  t.halved.low,
  t.second.high,
  t.third.low,
  t.fourth.high,
  t.fifth.low,
  t.sixth.high,
  t.seventh.low,
  t.eighth.high,
)

series_inside : (first square : Interval) (from : ℕ) → 0 < from → IsUpTo 48 first → IsUpTo 48 square
    → IsInside (9 * 2 ^ 45) (series_of first square from)
unfolding series_of
series_inside first square from p h g =
    let t = terms_up_to first square from p h g in
    record {
      low = omega (arith, ints, eight_low first square from t);
      ordered = (series_within first square from p h g).ordered;
      high = nine_high first square from t;
    }

octant_sine_inside : (t d : ℕ) → 0 < d → 2 * t ≤ d → IsInside (9 * 2 ^ 45) (octant_sine_of t d)
unfolding octant_sine_of
octant_sine_inside t d p h =
    let x = angle_up_to t d p h in
    series_inside (angle_of t d) _ 2 (omega arith) x (mul_up_to 48 (angle_of t d) (angle_of t d) x x)

octant_cosine_inside : (t d : ℕ) → 0 < d → 2 * t ≤ d → IsInside (9 * 2 ^ 45) (octant_cosine_of t d)
unfolding octant_cosine_of
octant_cosine_inside t d p h =
    let x = angle_up_to t d p h in
    series_inside one_of _ 1 (omega arith) one_up_to (mul_up_to 48 (angle_of t d) (angle_of t d) x x)

near : (m n : ℕ) → nat_le m n ≡ true → m ≤ n
near m n e = grind (arith, nat_tests, e)

sine_by : (b : Bool) (r d : ℕ) → r < d → nat_le (2 * r) d ≡ b
    → IsInside (9 * 2 ^ 45) (if b then octant_sine_of r d else octant_cosine_of (d - r) d)
sine_by true r d p e = octant_sine_inside r d (omega (arith, p)) (near (2 * r) d e)
sine_by false r d p e =
    let f = leb-false (2 * r) d e in
    octant_cosine_inside (d - r) d (omega (arith, p)) (omega (arith, p, f))

cosine_by : (b : Bool) (r d : ℕ) → r < d → nat_le (2 * r) d ≡ b
    → IsInside (9 * 2 ^ 45) (if b then octant_cosine_of r d else octant_sine_of (d - r) d)
cosine_by true r d p e = octant_cosine_inside r d (omega (arith, p)) (near (2 * r) d e)
cosine_by false r d p e =
    let f = leb-false (2 * r) d e in
    octant_sine_inside (d - r) d (omega (arith, p)) (omega (arith, p, f))

quarter_sine_inside : (r d : ℕ) → r < d → IsInside (9 * 2 ^ 45) (quarter_sine_of r d)
unfolding quarter_sine_of
quarter_sine_inside r d p = sine_by (nat_le (2 * r) d) r d p refl

quarter_cosine_inside : (r d : ℕ) → r < d → IsInside (9 * 2 ^ 45) (quarter_cosine_of r d)
unfolding quarter_cosine_of
quarter_cosine_inside r d p = cosine_by (nat_le (2 * r) d) r d p refl

-- both are at most m in size
pub record AreInside (m : ℕ) (t : SineCosine) : Type 0 where
  pub sine : IsInside m t.sine
  pub cosine : IsInside m t.cosine

choose : (b : Bool) (m : ℕ) (s t : SineCosine) → AreInside m s → AreInside m t
    → AreInside m (if b then s else t)
choose true m s t h k = h
choose false m s t h k = k

turned_inside : (k m : ℕ) (s c : Interval) → IsInside m s → IsInside m c → AreInside m (turned_of k s c)
unfolding turned_of
turned_inside k m s c h g =
    let minus_s = negated_inside m s h in
    let minus_c = negated_inside m c g in
    choose (k == 0) m _ _ (record { sine = h; cosine = g })
    (choose (k == 1) m _ _ (record { sine = g; cosine = minus_s })
    (choose (k == 2) m _ _ (record { sine = minus_s; cosine = minus_c })
    (record { sine = minus_c; cosine = h })))

turn_inside : (m d : ℕ) → 0 < d → AreInside (9 * 2 ^ 45) (turn_of m d)
unfolding turn_of
turn_inside m d p =
    let r : 2 * m % d < d = omega (arith, p) in
    turned_inside (2 * m / d) (9 * 2 ^ 45) _ _ (quarter_sine_inside (2 * m % d) d r)
    (quarter_cosine_inside (2 * m % d) d r)

pub half_turn_inside : (n : ℤ) (d : ℕ) → 0 < d → AreInside (9 * 2 ^ 45) (half_turn_of n d)
half_turn_inside n d p = turn_inside (within_turn n d) d p
