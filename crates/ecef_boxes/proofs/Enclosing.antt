-- The box encloses what the formulas give, by the laws of the operations, one after another.
use Rattle.std.proofs.Common.{ℕ, zero, suc, ◌-◌, ◌*◌, ◌^◌, ◌<◌, ◌≤◌, arith, Bool, true, false}
use Rattle.std.proofs.lemmas.Int.{ints}
use Rattle.std.proofs.Math.Nat.{mul-le-mul, mul-le-mul_right, le_of_mul-le-mul_right}
use Rattle.std.specs.Prelude.{ℤ, pos, negsuc, ◌*ℤ◌, ◌-ℤ◌, ◌≤ℤ◌, ◌<ℤ◌, unsigned_abs, nat_le, MatchBool}
use Rattle.terrain_base.specs.Division.{floor_of, ceil_of, root_of}
use Rattle.terrain_base.proofs.Quotients.{ceil_is, floor_is, mul_mono, root_is}
use Rattle.tms_tree.specs.declared.place.Place.{Place}
use Rattle.tms_tree.specs.Place.{IsPlace}
use Rattle.whole_interval.specs.declared.interval.Interval.{Interval}
use Rattle.whole_interval.specs.Fraction.{Fraction, plus, minus, times, negated, IsAtMost}
use Rattle.polynomial.proofs.Signs.{weaken}
use Rattle.whole_interval.specs.Interval.{IntervalHolds, add_of, sub_of, mul_of, div_pos_of, root_up_of, sqrt_of}
use Rattle.whole_interval.specs.Sine.{IsSine, IsCosine, IsOctantSine, IsOctantCosine}
use Rattle.whole_interval.specs.Sine.{IsTurnedSine, IsTurnedCosine, within_turn}
use Rattle.whole_interval.specs.Sine.{quarter_turns, left_of_quarter}
use Rattle.whole_interval.proofs.Enclosures.{add_holds, mul_holds, root_up_is, sub_holds}
use Rattle.whole_interval.proofs.Series.{cosine_holds, sine_holds}
use Rattle.ecef_boxes.specs.Bounds.{IsInside}
use Rattle.ecef_boxes.specs.Box.{whole_of, eccentricity_of, latitude_of, longitude_of, narrowing_of}
use Rattle.ecef_boxes.specs.Box.{radii_of, radii_at, from_axis_of, along_axis_of, ends_of, box_of, down_of}
use Rattle.ecef_boxes.specs.Box.{up_of}
use Rattle.ecef_boxes.specs.Ellipsoid.{Encloses, IsInEnds, IsInInterval, IsLatitudeSine, IsLatitudeCosine}
use Rattle.ecef_boxes.specs.Ellipsoid.{IsLongitudeSine, IsLongitudeCosine, eccentricity_squared, narrowing}
use Rattle.ecef_boxes.specs.Ellipsoid.{semi_major_axis, square, whole, x_at, y_at, z_at}
use Rattle.ecef_boxes.proofs.Ends.{down_low, up_high}
use Rattle.ecef_boxes.proofs.Radii.{IsNarrowing, narrowing_bounds, radii_bounds, root_bounds}
use Rattle.ecef_boxes.proofs.Turns.{half_turn_inside}

-- ---- the denominators are above 0
sine_by : (b : Bool) (r d : ℕ) (s : Fraction)
    → MatchBool b (IsOctantSine r d s) (IsOctantCosine (d - r) d s) → 0 < s.denominator
sine_by true r d s h = h.is_sum.positive
sine_by false r d s h = h.is_sum.positive

cosine_by : (b : Bool) (r d : ℕ) (s : Fraction)
    → MatchBool b (IsOctantCosine r d s) (IsOctantSine (d - r) d s) → 0 < s.denominator
cosine_by true r d s h = h.is_sum.positive
cosine_by false r d s h = h.is_sum.positive

turned_sine : (k r d : ℕ) (s : Fraction) → IsTurnedSine k r d s → 0 < s.denominator
turned_sine zero r d s h = sine_by (nat_le (2 * r) d) r d s h
turned_sine (suc zero) r d s h = cosine_by (nat_le (2 * r) d) r d s h
turned_sine (suc (suc zero)) r d s h = sine_by (nat_le (2 * r) d) r d (negated s) h
turned_sine (suc (suc (suc k))) r d s h = cosine_by (nat_le (2 * r) d) r d (negated s) h

turned_cosine : (k r d : ℕ) (s : Fraction) → IsTurnedCosine k r d s → 0 < s.denominator
turned_cosine zero r d s h = cosine_by (nat_le (2 * r) d) r d s h
turned_cosine (suc zero) r d s h = sine_by (nat_le (2 * r) d) r d (negated s) h
turned_cosine (suc (suc zero)) r d s h = cosine_by (nat_le (2 * r) d) r d (negated s) h
turned_cosine (suc (suc (suc k))) r d s h = sine_by (nat_le (2 * r) d) r d s h

sine_positive : (n : ℤ) (d : ℕ) (s : Fraction) → IsSine n d s → 0 < s.denominator
unfolding IsSine
sine_positive n d s h = turned_sine (quarter_turns (within_turn n d) d) (left_of_quarter (within_turn n d) d) d s h

cosine_positive : (n : ℤ) (d : ℕ) (s : Fraction) → IsCosine n d s → 0 < s.denominator
unfolding IsCosine
cosine_positive n d s h =
    turned_cosine (quarter_turns (within_turn n d) d) (left_of_quarter (within_turn n d) d) d s h

times_positive : (x y : ℕ) → 0 < x → 0 < y → 0 < x * y
times_positive x y p q =
    let a : 1 ≤ x = omega (arith, p) in
    let b : 1 ≤ y = omega (arith, q) in
    omega (arith, mul-le-mul a b)

-- ---- the steps
in_interval : (a : Interval) (f : Fraction) → IsInInterval a f → IntervalHolds a f
in_interval a f h = record { low = h.above; high = h.below }

whole_holds : (n : ℤ) → IntervalHolds (whole_of n) (whole n)
unfolding whole_of
whole_holds n = record { low = omega (arith, ints); high = omega (arith, ints) }

eccentricity_holds : IntervalHolds eccentricity_of eccentricity_squared
unfolding eccentricity_of
eccentricity_holds =
    let scaled = eccentricity_squared.numerator *ℤ pos (2 ^ 48) in
    let d = pos eccentricity_squared.denominator in
    let p : pos 0 <ℤ d = omega (arith, ints) in
    record { low = (floor_is scaled d p).low; high = (ceil_is scaled d p).high }

narrowing_holds : (sine : Interval) (s : Fraction) → IntervalHolds sine s → IntervalHolds (narrowing_of sine) (narrowing s)
unfolding narrowing_of
narrowing_holds sine s h = sub_holds (whole_of (pos 1)) (mul_of eccentricity_of (mul_of sine sine))
    (whole (pos 1)) (times eccentricity_squared (square s)) (whole_holds (pos 1))
    (mul_holds eccentricity_of (mul_of sine sine) eccentricity_squared (square s) eccentricity_holds
    (mul_holds sine sine s s h h))

from_axis_holds : (radii : Interval) (metres : ℤ) (cosine : Interval) (n c : Fraction) → IntervalHolds radii n
    → IntervalHolds cosine c → IntervalHolds (from_axis_of radii metres cosine) (times (plus n (whole metres)) c)
unfolding from_axis_of
from_axis_holds radii metres cosine n c h k = mul_holds (add_of radii (whole_of metres)) cosine
    (plus n (whole metres)) c (add_holds radii (whole_of metres) n (whole metres) h (whole_holds metres)) k

along_axis_holds : (radii : Interval) (metres : ℤ) (sine : Interval) (n s : Fraction) → IntervalHolds radii n
    → IntervalHolds sine s → IntervalHolds (along_axis_of radii metres sine) (z_at n (whole metres) s)
unfolding along_axis_of
along_axis_holds radii metres sine n s h k =
    let flat = sub_of (whole_of (pos 1)) eccentricity_of in
    let flat_at = minus (whole (pos 1)) eccentricity_squared in
    let short = mul_holds radii flat n flat_at h
    (sub_holds (whole_of (pos 1)) eccentricity_of (whole (pos 1)) eccentricity_squared (whole_holds (pos 1))
    eccentricity_holds) in
    mul_holds (add_of (mul_of radii flat) (whole_of metres)) sine (plus (times n flat_at) (whole metres)) s
    (add_holds (mul_of radii flat) (whole_of metres) (times n flat_at) (whole metres) short (whole_holds metres)) k

ends_hold : (a : Interval) (f : Fraction) → 0 < f.denominator → IntervalHolds a f → IsInEnds (down_of a.lo) (up_of a.hi) f
ends_hold a f p h = record {
  positive = p;
  above = down_low a.lo f.numerator f.denominator h.low;
  below = up_high a.hi f.numerator f.denominator h.high;
}

-- ---- the radii, in the sense of squares
-- n * w is at most a * k^2 and w^2 at least u * k, where v / d is at most u / k
squares_low : (n w u v a k d : ℕ) → 0 < k → n * w ≤ a * k * k → u * k ≤ w * w → v * k ≤ u * d
    → n * n * v ≤ a * a * (k * k * d)
squares_low n w u v a k d p f g h =
    let one = mul-le-mul_right (n * n * k) h in
    let two = mul-le-mul_right (n * n * d) g in
    let three = mul-le-mul_right d (mul-le-mul f f) in
    let all : (n * n * v) * (k * k) ≤ (a * a * (k * k * d)) * (k * k) = omega (arith, one, two, three) in
    le_of_mul-le-mul_right all (times_positive k k p p)

squares_high : (n w u v a k d : ℕ) → 0 < k → a * k * k ≤ n * w → w * w ≤ u * k → u * d ≤ v * k
    → a * a * (k * k * d) ≤ n * n * v
squares_high n w u v a k d p f g h =
    let one = mul-le-mul_right (n * n * k) h in
    let two = mul-le-mul_right (n * n * d) g in
    let three = mul-le-mul_right d (mul-le-mul f f) in
    let all : (a * a * (k * k * d)) * (k * k) ≤ (n * n * v) * (k * k) = omega (arith, one, two, three) in
    le_of_mul-le-mul_right all (times_positive k k p p)

low_by : (n u v : ℤ) (w a k d : ℕ) → 0 < k → pos 0 ≤ℤ n → pos 0 ≤ℤ u → pos 0 ≤ℤ v
    → (n *ℤ pos w) ≤ℤ ((pos a *ℤ pos k) *ℤ pos k) → unsigned_abs u * k ≤ w * w
    → (v *ℤ pos k) ≤ℤ (u *ℤ pos d)
    → (((n *ℤ n) *ℤ v) *ℤ pos (1 * 1)) ≤ℤ ((pos a *ℤ pos a) *ℤ pos (k * k * d))
low_by (pos n) (pos u) (pos v) w a k d p q r s f g h = omega
    (arith, ints, squares_low n w u v a k d p (omega (arith, ints, f)) g (omega (arith, ints, h)))
low_by (negsuc n) u v w a k d p q r s f g h = absurd (omega (arith, ints, q))
low_by (pos n) (negsuc u) v w a k d p q r s f g h = absurd (omega (arith, ints, r))
low_by (pos n) (pos u) (negsuc v) w a k d p q r s f g h = absurd (omega (arith, ints, s))

high_by : (n u v : ℤ) (w a k d : ℕ) → 0 < k → pos 0 ≤ℤ n → pos 0 ≤ℤ u → pos 0 ≤ℤ v
    → ((pos a *ℤ pos k) *ℤ pos k) ≤ℤ (n *ℤ pos w) → w * w ≤ unsigned_abs u * k
    → (u *ℤ pos d) ≤ℤ (v *ℤ pos k)
    → ((pos a *ℤ pos a) *ℤ pos (k * k * d)) ≤ℤ (((n *ℤ n) *ℤ v) *ℤ pos (1 * 1))
high_by (pos n) (pos u) (pos v) w a k d p q r s f g h = omega
    (arith, ints, squares_high n w u v a k d p (omega (arith, ints, f)) g (omega (arith, ints, h)))
high_by (negsuc n) u v w a k d p q r s f g h = absurd (omega (arith, ints, q))
high_by (pos n) (negsuc u) v w a k d p q r s f g h = absurd (omega (arith, ints, r))
high_by (pos n) (pos u) (negsuc v) w a k d p q r s f g h = absurd (omega (arith, ints, s))

-- a number that is at least one from 0 on
from_nought : (u v : ℤ) (d k : ℕ) → pos 0 ≤ℤ u → (u *ℤ pos d) ≤ℤ (v *ℤ pos (suc k)) → pos 0 ≤ℤ v
from_nought u (pos v) d k p h = omega (arith, ints)
from_nought u (negsuc v) d k p h =
    let up : (pos 0 *ℤ pos d) ≤ℤ (u *ℤ pos d) = mul_mono d (pos 0) u p in
    absurd (omega (arith, ints, up, h, mul_mono (suc k) (negsuc v) (negsuc 0) (omega (arith, ints))))

narrowing_from_nought : (u : Interval) (f : Fraction) → IsNarrowing u → IntervalHolds u f → pos 0 ≤ℤ f.numerator
narrowing_from_nought u f b h = from_nought u.lo f.numerator f.denominator (2 ^ 48 - 1)
    (omega (arith, ints, b.low)) h.low

pub radii_low : (sine : Interval) (s : Fraction) → IsInside (9 * 2 ^ 45) sine → IntervalHolds sine s
    → IsAtMost (times (square (record { numerator = (radii_of sine).lo; denominator = 2 ^ 48 })) (narrowing s))
    (square (whole (pos semi_major_axis)))
unfolding radii_of div_pos_of whole_of sqrt_of
radii_low sine s i h =
    let b = narrowing_bounds sine i in
    let u = narrowing_of sine in
    let k = narrowing_holds sine s h in
    let p = (radii_bounds sine i).positive in
    let w = root_up_of (unsigned_abs u.hi * 2 ^ 48) in
    let axis = (pos semi_major_axis *ℤ pos (2 ^ 48)) *ℤ pos (2 ^ 48) in
    let root = root_bounds u b in
    let above : pos 0 <ℤ (sqrt_of u).hi = omega (arith, ints, root.low, root.ordered) in
    low_by (floor_of axis (pos w)) u.hi (narrowing s).numerator w semi_major_axis (2 ^ 48)
    (narrowing s).denominator (omega arith) (weaken p) (omega (arith, ints, b.low, b.ordered))
    (narrowing_from_nought u (narrowing s) b k) (floor_is axis (pos w) above).low
    (root_up_is (unsigned_abs u.hi * 2 ^ 48)) k.high

pub radii_high : (sine : Interval) (s : Fraction) → IsInside (9 * 2 ^ 45) sine → IntervalHolds sine s
    → IsAtMost (square (whole (pos semi_major_axis)))
    (times (square (record { numerator = (radii_of sine).hi; denominator = 2 ^ 48 })) (narrowing s))
unfolding radii_of div_pos_of whole_of sqrt_of
radii_high sine s i h =
    let b = narrowing_bounds sine i in
    let u = narrowing_of sine in
    let k = narrowing_holds sine s h in
    let r = radii_bounds sine i in
    let w = root_of (unsigned_abs u.lo * 2 ^ 48) in
    let axis = (pos semi_major_axis *ℤ pos (2 ^ 48)) *ℤ pos (2 ^ 48) in
    let root = root_bounds u b in
    let above : pos 0 <ℤ (sqrt_of u).lo = omega (arith, ints, root.low) in
    let n : pos 0 ≤ℤ (radii_of sine).hi = omega (arith, ints, r.positive, r.inside.ordered) in
    high_by (ceil_of axis (pos w)) u.lo (narrowing s).numerator w semi_major_axis (2 ^ 48)
    (narrowing s).denominator (omega arith) n (omega (arith, ints, b.low))
    (narrowing_from_nought u (narrowing s) b k) (ceil_is axis (pos w) above).high
    (root_is (unsigned_abs u.lo * 2 ^ 48)).low k.low

-- ---- the place's angles
latitude_sine : (place : Place) → IsPlace place → (s : Fraction) → IsLatitudeSine place s
    → (0 < s.denominator) × IntervalHolds (latitude_of place).sine s
unfolding latitude_of
latitude_sine place p s h =
    let n = pos (2 * place.q) -ℤ pos place.d in
    (sine_positive n (2 * place.d) s h, sine_holds n (2 * place.d) s (omega (arith, p.positive)) h)

latitude_cosine : (place : Place) → IsPlace place → (s : Fraction) → IsLatitudeCosine place s
    → (0 < s.denominator) × IntervalHolds (latitude_of place).cosine s
unfolding latitude_of
latitude_cosine place p s h =
    let n = pos (2 * place.q) -ℤ pos place.d in
    (cosine_positive n (2 * place.d) s h, cosine_holds n (2 * place.d) s (omega (arith, p.positive)) h)

longitude_sine : (place : Place) → IsPlace place → (s : Fraction) → IsLongitudeSine place s
    → (0 < s.denominator) × IntervalHolds (longitude_of place).sine s
unfolding longitude_of
longitude_sine place p s h =
    let n = pos place.p -ℤ pos place.d in
    (sine_positive n place.d s h, sine_holds n place.d s p.positive h)

longitude_cosine : (place : Place) → IsPlace place → (s : Fraction) → IsLongitudeCosine place s
    → (0 < s.denominator) × IntervalHolds (longitude_of place).cosine s
unfolding longitude_of
longitude_cosine place p s h =
    let n = pos place.p -ℤ pos place.d in
    (cosine_positive n place.d s h, cosine_holds n place.d s p.positive h)

latitude_inside : (place : Place) → IsPlace place → IsInside (9 * 2 ^ 45) (latitude_of place).sine
unfolding latitude_of
latitude_inside place p =
    (half_turn_inside (pos (2 * place.q) -ℤ pos place.d) (2 * place.d) (omega (arith, p.positive))).sine

-- ---- the box
sideways_positive : (n c l : ℕ) → 0 < n → 0 < c → 0 < l → 0 < (n * 1) * c * l
sideways_positive n c l p q r = times_positive (n * 1 * c) l
    (times_positive (n * 1) c (omega (arith, p)) q) r

upward_positive : (n e s : ℕ) → 0 < n → 0 < e → 0 < s → 0 < ((n * (1 * e)) * 1) * s
upward_positive n e s p q r = times_positive (n * (1 * e) * 1) s
    (times_positive (n * (1 * e)) 1 (times_positive n (1 * e) p (omega (arith, q))) (omega arith)) r

pub box_encloses : (place : Place) (metres : ℤ) → IsPlace place
    → Encloses place metres (radii_at place) (box_of place metres)
unfolding radii_at box_of ends_of
box_encloses place metres p =
    let north = latitude_of place in
    let east = longitude_of place in
    let radii = radii_of north.sine in
    let inside = latitude_inside place p in
    let out = from_axis_of radii metres north.cosine in
    record {
      positive = (radii_bounds north.sine inside).positive;
      radius_low = λ s h. radii_low north.sine s inside (latitude_sine place p s h).1;
      radius_high = λ s h. radii_high north.sine s inside (latitude_sine place p s h).1;
      x = λ n c l g h k.
          let cosine = latitude_cosine place p c h in
          let part = longitude_cosine place p l k in
          ends_hold (mul_of out east.cosine) (x_at n (whole metres) c l)
          (sideways_positive n.denominator c.denominator l.denominator g.positive cosine.0 part.0)
          (mul_holds out east.cosine (times (plus n (whole metres)) c) l
          (from_axis_holds radii metres north.cosine n c (in_interval radii n g) cosine.1) part.1);
      y = λ n c l g h k.
          let cosine = latitude_cosine place p c h in
          let part = longitude_sine place p l k in
          ends_hold (mul_of out east.sine) (y_at n (whole metres) c l)
          (sideways_positive n.denominator c.denominator l.denominator g.positive cosine.0 part.0)
          (mul_holds out east.sine (times (plus n (whole metres)) c) l
          (from_axis_holds radii metres north.cosine n c (in_interval radii n g) cosine.1) part.1);
      z = λ n s g h.
          let sine = latitude_sine place p s h in
          ends_hold (along_axis_of radii metres north.sine) (z_at n (whole metres) s)
          (upward_positive n.denominator eccentricity_squared.denominator s.denominator g.positive (omega arith)
          sine.0)
          (along_axis_holds radii metres north.sine n s (in_interval radii n g) sine.1);
    }
