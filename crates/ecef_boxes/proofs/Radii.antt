-- How large the numbers of a box's steps get, one bound for each step.
use Rattle.std.proofs.Common.{◌≡◌, ℕ, ◌+◌, ◌*◌, ◌^◌, ◌≤◌, refl, sym, arith, inl, inr}
use Rattle.std.proofs.lemmas.Int.{ints}
use Rattle.std.proofs.lemmas.Bool.{cases_lt}
use Rattle.std.proofs.Math.Nat.{mul-le-mul, mul-le-mul_right}
use Rattle.std.specs.Prelude.{ℤ, pos, negsuc, ◌*ℤ◌, ◌≤ℤ◌, ◌<ℤ◌, unsigned_abs}
use Rattle.terrain_base.specs.Division.{IsRoot, floor_of, ceil_of, root_of}
use Rattle.terrain_base.proofs.Quotients.{root_is}
use Rattle.whole_interval.specs.declared.interval.Interval.{Interval}
use Rattle.whole_interval.specs.Interval.{IsRootUp, add_of, sub_of, mul_of, div_pos_of, root_up_of, sqrt_of}
use Rattle.whole_interval.proofs.Enclosures.{div_pos_ordered, root_up_fits, sqrt_ordered}
use Rattle.whole_interval.proofs.Sizes.{ceil_at_most}
use Rattle.ecef_boxes.specs.Bounds.{IsInside}
use Rattle.ecef_boxes.specs.Box.{whole_of, eccentricity_of, narrowing_of, radii_of, from_axis_of}
use Rattle.ecef_boxes.specs.Box.{along_axis_of}
use Rattle.ecef_boxes.specs.Ellipsoid.{semi_major_axis}
use Rattle.ecef_boxes.proofs.Sizes.{add_inside, floor_at_least, mul_inside}

pub whole_inside : (n : ℤ) (m : ℕ) → unsigned_abs n ≤ m → IsInside (m * 2 ^ 48) (whole_of n)
unfolding whole_of
whole_inside n m h = record {
  low = omega (arith, ints, h);
  ordered = omega (arith, ints);
  high = omega (arith, ints, h);
}

pub eccentricity_is : ◌≡◌ {A = Interval} (record { lo = pos 1884300451817; hi = pos 1884300451818 })
    eccentricity_of
unfolding eccentricity_of floor_of ceil_of
eccentricity_is = refl

pub eccentricity_inside : IsInside (2 ^ 41) eccentricity_of
eccentricity_inside = rw (sym eccentricity_is) (record {
  low = omega (arith, ints);
  ordered = omega (arith, ints);
  high = omega (arith, ints);
})

-- e^2 * sine^2 is at most 81/8192
pub deducted_inside : (sine : Interval) → IsInside (9 * 2 ^ 45) sine
    → (IsInside (81 * 2 ^ 42) (mul_of sine sine))
    × (IsInside (81 * 2 ^ 35) (mul_of eccentricity_of (mul_of sine sine)))
deducted_inside sine h =
    let squares = mul_inside (9 * 2 ^ 45) (9 * 2 ^ 45) (81 * 2 ^ 42) sine sine h h (omega arith) in (
      squares,
      mul_inside (2 ^ 41) (81 * 2 ^ 42) (81 * 2 ^ 35) eccentricity_of (mul_of sine sine)
          eccentricity_inside squares (omega arith),
    )

-- so 1 less this is from 16129/16384, the square of 127/128, to 2
pub record IsNarrowing (a : Interval) : Type 0 where
  pub low : pos (16129 * 2 ^ 34) ≤ℤ a.lo
  pub ordered : a.lo ≤ℤ a.hi
  pub high : a.hi ≤ℤ pos (2 ^ 49)

pub narrowing_bounds : (sine : Interval) → IsInside (9 * 2 ^ 45) sine → IsNarrowing (narrowing_of sine)
unfolding narrowing_of sub_of whole_of
narrowing_bounds sine h =
    let less = (deducted_inside sine h).1 in
    record {
      low = omega (arith, ints, less.high);
      ordered = omega (arith, ints, less.ordered);
      high = omega (arith, ints, less.low);
    }

root_at_least : (w n r : ℕ) → IsRoot n r → w * w ≤ n → w ≤ r
root_at_least w n r h k = elim (cases_lt r w) [
  | inl less ↦ let l : r + 1 ≤ w = omega (arith, less) in absurd (omega (arith, mul-le-mul l l, h.high, k))
  | inr fine ↦ fine
]

root_up_at_most : (w n r : ℕ) → IsRootUp n r → n ≤ w * w → r ≤ w
root_up_at_most w n r h k = elim (cases_lt w r) [
  | inl less ↦ absurd (omega (arith, h.low w less, k))
  | inr fine ↦ fine
]

-- the root is from 127/128 to 2
pub record IsRootOfNarrowing (a : Interval) : Type 0 where
  pub low : pos (127 * 2 ^ 41) ≤ℤ a.lo
  pub ordered : a.lo ≤ℤ a.hi
  pub high : a.hi ≤ℤ pos (2 ^ 49)

lo_root : (x : ℤ) → pos (16129 * 2 ^ 34) ≤ℤ x → 127 * 2 ^ 41 ≤ root_of (unsigned_abs x * 2 ^ 48)
lo_root x h = root_at_least (127 * 2 ^ 41) (unsigned_abs x * 2 ^ 48) _ (root_is (unsigned_abs x * 2 ^ 48))
    (let l : 16129 * 2 ^ 34 ≤ unsigned_abs x = omega (arith, ints, h) in omega (arith, l))

hi_root : (x : ℤ) → pos 0 ≤ℤ x → x ≤ℤ pos (2 ^ 49) → root_up_of (unsigned_abs x * 2 ^ 48) ≤ 2 ^ 49
hi_root x p h = root_up_at_most (2 ^ 49) (unsigned_abs x * 2 ^ 48) _ (root_up_fits (unsigned_abs x * 2 ^ 48))
    (let l : unsigned_abs x ≤ 2 ^ 49 = omega (arith, ints, p, h) in omega (arith, l))

pub root_bounds : (a : Interval) → IsNarrowing a → IsRootOfNarrowing (sqrt_of a)
unfolding sqrt_of
root_bounds a h =
    let p : pos 0 ≤ℤ a.lo = omega (arith, ints, h.low) in
    let q : pos 0 ≤ℤ a.hi = omega (arith, ints, h.low, h.ordered) in
    record {
      low = omega (arith, ints, lo_root a.lo h.low);
      ordered = sqrt_ordered a p h.ordered;
      high = omega (arith, ints, hi_root a.hi q h.high);
    }

-- N is above 0 and at most 6428360 m
pub record AreRadii (a : Interval) : Type 0 where
  pub positive : pos 0 <ℤ a.lo
  pub inside : IsInside (6428360 * 2 ^ 48) a

lo_radius : (w : ℤ) → pos 0 <ℤ w → w ≤ℤ pos (2 ^ 49)
    → pos 1 ≤ℤ floor_of (pos (semi_major_axis * 2 ^ 48) *ℤ pos (2 ^ 48)) w
lo_radius (pos w) p h = floor_at_least _ w (pos 1) (omega (arith, ints, p)) (omega (arith, ints, h))
lo_radius (negsuc w) p h = absurd (omega (arith, ints, p))

hi_radius : (w : ℤ) → pos (127 * 2 ^ 41) ≤ℤ w
    → ceil_of (pos (semi_major_axis * 2 ^ 48) *ℤ pos (2 ^ 48)) w ≤ℤ pos (6428360 * 2 ^ 48)
hi_radius (pos w) h =
    let l : 127 * 2 ^ 41 ≤ w = omega (arith, ints, h) in
    ceil_at_most _ w (pos (6428360 * 2 ^ 48)) (omega (arith, l))
    (omega (arith, ints, mul-le-mul_right (6428360 * 2 ^ 48) l))
hi_radius (negsuc w) h = absurd (omega (arith, ints, h))

radii_low : (a : Interval) → IsRootOfNarrowing a
    → pos 1 ≤ℤ (div_pos_of (whole_of (pos semi_major_axis)) a).lo
unfolding div_pos_of whole_of
radii_low a h = lo_radius a.hi (omega (arith, ints, h.low, h.ordered)) h.high

radii_high : (a : Interval) → IsRootOfNarrowing a
    → (div_pos_of (whole_of (pos semi_major_axis)) a).hi ≤ℤ pos (6428360 * 2 ^ 48)
unfolding div_pos_of whole_of
radii_high a h = hi_radius a.lo h.low

quotient_bounds : (a : Interval) → IsRootOfNarrowing a
    → AreRadii (div_pos_of (whole_of (pos semi_major_axis)) a)
quotient_bounds a h =
    let low = radii_low a h in
    let axis = whole_inside (pos semi_major_axis) semi_major_axis (omega (arith, ints)) in
    record {
      positive = omega (arith, ints, low);
      inside = record {
        low = omega (arith, ints, low);
        ordered = div_pos_ordered (whole_of (pos semi_major_axis)) a (omega (arith, ints, h.low)) axis.ordered
            h.ordered;
        high = radii_high a h;
      };
    }

pub radii_bounds : (sine : Interval) → IsInside (9 * 2 ^ 45) sine → AreRadii (radii_of sine)
unfolding radii_of
radii_bounds sine h = quotient_bounds (sqrt_of (narrowing_of sine))
    (root_bounds (narrowing_of sine) (narrowing_bounds sine h))

-- N + h is at most 6444360 m in size
pub raised_inside : (a : Interval) (metres : ℤ) → IsInside (6428360 * 2 ^ 48) a → unsigned_abs metres ≤ 16000
    → IsInside (6444360 * 2 ^ 48) (add_of a (whole_of metres))
raised_inside a metres h k = add_inside (6428360 * 2 ^ 48) (16000 * 2 ^ 48) (6444360 * 2 ^ 48) a
    (whole_of metres) h (whole_inside metres 16000 k) (omega arith)

pub from_axis_inside : (radii : Interval) (metres : ℤ) (cosine : Interval)
    → IsInside (6428360 * 2 ^ 48) radii → unsigned_abs metres ≤ 16000 → IsInside (9 * 2 ^ 45) cosine
    → IsInside (57999240 * 2 ^ 45) (from_axis_of radii metres cosine)
unfolding from_axis_of
from_axis_inside radii metres cosine h k l = mul_inside (6444360 * 2 ^ 48) (9 * 2 ^ 45) (57999240 * 2 ^ 45)
    (add_of radii (whole_of metres)) cosine (raised_inside radii metres h k) l (omega arith)

-- 1 - e^2 is at most 1
pub flattened_inside : IsInside (2 ^ 48) (sub_of (whole_of (pos 1)) eccentricity_of)
unfolding sub_of whole_of eccentricity_of floor_of ceil_of
flattened_inside = record {
  low = omega (arith, ints);
  ordered = omega (arith, ints);
  high = omega (arith, ints);
}

pub shortened_inside : (radii : Interval) → IsInside (6428360 * 2 ^ 48) radii
    → IsInside (6428360 * 2 ^ 48) (mul_of radii (sub_of (whole_of (pos 1)) eccentricity_of))
shortened_inside radii h = mul_inside (6428360 * 2 ^ 48) (2 ^ 48) (6428360 * 2 ^ 48) radii _ h flattened_inside
    (omega arith)

pub along_axis_inside : (radii : Interval) (metres : ℤ) (sine : Interval)
    → IsInside (6428360 * 2 ^ 48) radii → unsigned_abs metres ≤ 16000 → IsInside (9 * 2 ^ 45) sine
    → IsInside (57999240 * 2 ^ 45) (along_axis_of radii metres sine)
unfolding along_axis_of
along_axis_inside radii metres sine h k l = mul_inside (6444360 * 2 ^ 48) (9 * 2 ^ 45) (57999240 * 2 ^ 45)
    (add_of (mul_of radii (sub_of (whole_of (pos 1)) eccentricity_of)) (whole_of metres)) sine
    (raised_inside (mul_of radii (sub_of (whole_of (pos 1)) eccentricity_of)) metres
    (shortened_inside radii h) k) l (omega arith)

-- a coordinate that is the product with a sine or cosine of the longitude
pub sideways_inside : (out part : Interval) → IsInside (57999240 * 2 ^ 45) out → IsInside (9 * 2 ^ 45) part
    → IsInside (521993160 * 2 ^ 42) (mul_of out part)
sideways_inside out part h k = mul_inside (57999240 * 2 ^ 45) (9 * 2 ^ 45) (521993160 * 2 ^ 42) out part h k
    (omega arith)
