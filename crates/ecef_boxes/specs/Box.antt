-- The box of a point, by interval arithmetic that is rounded outward.
use Rattle.std.specs.Prelude.{ℤ, pos, ◌*◌, ◌^◌, ◌-ℤ◌, ◌*ℤ◌}
use Rattle.terrain_base.specs.Division.{floor_of, ceil_of}
use Rattle.tms_tree.specs.declared.place.Place.{Place}
use Rattle.whole_interval.specs.declared.interval.Interval.{Interval}
use Rattle.whole_interval.specs.declared.sine_cosine.SineCosine.{SineCosine}
use Rattle.whole_interval.specs.Interval.{add_of, sub_of, mul_of, div_pos_of, sqrt_of}
use Rattle.whole_interval.specs.HalfTurn.{half_turn_of}
use Rattle.ecef_boxes.specs.Ellipsoid.{eccentricity_squared, semi_major_axis}
use Rattle.ecef_boxes.specs.declared.ecef_box.EcefBox.{EcefBox}

-- a whole number
unfoldable pub whole_of : ℤ → Interval
whole_of n = record { lo = n *ℤ pos (2 ^ 48); hi = n *ℤ pos (2 ^ 48) }

-- e^2, rounded down and up
unfoldable pub eccentricity_of : Interval
eccentricity_of = record {
  lo = floor_of (eccentricity_squared.numerator *ℤ pos (2 ^ 48)) (pos eccentricity_squared.denominator);
  hi = ceil_of (eccentricity_squared.numerator *ℤ pos (2 ^ 48)) (pos eccentricity_squared.denominator);
}

-- the place's latitude, pi * (2 * q - d) / (2 * d)
unfoldable pub latitude_of : Place → SineCosine
latitude_of place = half_turn_of (pos (2 * place.q) -ℤ pos place.d) (2 * place.d)

-- the place's longitude, pi * (p - d) / d
unfoldable pub longitude_of : Place → SineCosine
longitude_of place = half_turn_of (pos place.p -ℤ pos place.d) place.d

-- 1 - e^2 * sin^2(latitude)
unfoldable pub narrowing_of : Interval → Interval
narrowing_of sine = sub_of (whole_of (pos 1)) (mul_of eccentricity_of (mul_of sine sine))

-- N, a over the square root of it
unfoldable pub radii_of : Interval → Interval
radii_of sine = div_pos_of (whole_of (pos semi_major_axis)) (sqrt_of (narrowing_of sine))

-- (N + h) * cos(latitude)
unfoldable pub from_axis_of : (radii : Interval) (metres : ℤ) (cosine : Interval) → Interval
from_axis_of radii metres cosine = mul_of (add_of radii (whole_of metres)) cosine

-- (N * (1 - e^2) + h) * sin(latitude)
unfoldable pub along_axis_of : (radii : Interval) (metres : ℤ) (sine : Interval) → Interval
along_axis_of radii metres sine =
    mul_of (add_of (mul_of radii (sub_of (whole_of (pos 1)) eccentricity_of)) (whole_of metres)) sine

-- a number in units of 2^-48, rounded down to units of 2^-8
unfoldable pub down_of : ℤ → ℤ
down_of n = floor_of n (pos (2 ^ 40))

-- and rounded up
unfoldable pub up_of : ℤ → ℤ
up_of n = ceil_of n (pos (2 ^ 40))

-- the three coordinates' intervals
unfoldable pub ends_of : Interval → Interval → Interval → EcefBox
ends_of x y z = record {
  x_lo = down_of x.lo;
  x_hi = up_of x.hi;
  y_lo = down_of y.lo;
  y_hi = up_of y.hi;
  z_lo = down_of z.lo;
  z_hi = up_of z.hi;
}

-- the radii of curvature in the prime vertical at the place
unfoldable pub radii_at : Place → Interval
radii_at place = radii_of (latitude_of place).sine

-- the box of the point that is so many metres above the ellipsoid at the place
unfoldable pub box_of : Place → ℤ → EcefBox
box_of place metres =
    let out = from_axis_of (radii_at place) metres (latitude_of place).cosine in
    ends_of (mul_of out (longitude_of place).cosine) (mul_of out (longitude_of place).sine)
    (along_axis_of (radii_at place) metres (latitude_of place).sine)
