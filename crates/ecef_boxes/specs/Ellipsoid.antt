-- The WGS 84 ellipsoid and Earth-fixed coordinates (NGA.STND.0036, WGS 84: the defining parameters, and the
-- coordinates X, Y and Z of a point at geodetic latitude and longitude, h metres above the ellipsoid).
use Rattle.std.specs.Prelude.{ℕ, ℤ, pos, ◌*◌, ◌^◌, ◌<ℤ◌, ◌-ℤ◌}
use Rattle.tms_tree.specs.declared.place.Place.{Place}
use Rattle.whole_interval.specs.declared.interval.Interval.{Interval}
use Rattle.whole_interval.specs.Fraction.{Fraction, plus, minus, times, IsAtMost, IsBetween}
use Rattle.whole_interval.specs.Sine.{IsSine, IsCosine}
use Rattle.ecef_boxes.specs.declared.ecef_box.EcefBox.{EcefBox}

-- ---- the ellipsoid

-- a whole number, as a fraction
abbrev pub whole : ℤ → Fraction
whole n = record { numerator = n; denominator = 1 }

abbrev pub square : Fraction → Fraction
square f = times f f

-- a, the semi-major axis, in metres
abbrev pub semi_major_axis : ℕ
semi_major_axis = 6378137

-- f, the flattening: 1 over 298.257223563
abbrev pub flattening : Fraction
flattening = record { numerator = pos (10 ^ 9); denominator = 298257223563 }

-- e^2, the square of the first eccentricity: f * (2 - f)
abbrev pub eccentricity_squared : Fraction
eccentricity_squared = times flattening (minus (whole (pos 2)) flattening)

-- ---- the angles of a place

-- s is a value of the sine of the place's latitude, 180 * q / d - 90 degrees, so pi * (2 * q - d) / (2 * d)
abbrev pub IsLatitudeSine : Place → Fraction → Type 0
IsLatitudeSine place s = IsSine (pos (2 * place.q) -ℤ pos place.d) (2 * place.d) s

-- s is a value of its cosine
abbrev pub IsLatitudeCosine : Place → Fraction → Type 0
IsLatitudeCosine place s = IsCosine (pos (2 * place.q) -ℤ pos place.d) (2 * place.d) s

-- s is a value of the sine of the place's longitude, 180 * p / d - 180 degrees, so pi * (p - d) / d
abbrev pub IsLongitudeSine : Place → Fraction → Type 0
IsLongitudeSine place s = IsSine (pos place.p -ℤ pos place.d) place.d s

-- s is a value of its cosine
abbrev pub IsLongitudeCosine : Place → Fraction → Type 0
IsLongitudeCosine place s = IsCosine (pos place.p -ℤ pos place.d) place.d s

-- ---- the formulas, with n for N, the radius of curvature in the prime vertical, and h for the height

-- 1 - e^2 * sin^2(latitude): N is a over its square root
abbrev pub narrowing : Fraction → Fraction
narrowing sine = minus (whole (pos 1)) (times eccentricity_squared (square sine))

-- X = (N + h) * cos(latitude) * cos(longitude)
abbrev pub x_at : (n h latitude_cosine longitude_cosine : Fraction) → Fraction
x_at n h latitude_cosine longitude_cosine = times (times (plus n h) latitude_cosine) longitude_cosine

-- Y = (N + h) * cos(latitude) * sin(longitude)
abbrev pub y_at : (n h latitude_cosine longitude_sine : Fraction) → Fraction
y_at n h latitude_cosine longitude_sine = times (times (plus n h) latitude_cosine) longitude_sine

-- Z = (N * (1 - e^2) + h) * sin(latitude)
abbrev pub z_at : (n h latitude_sine : Fraction) → Fraction
z_at n h latitude_sine = times (plus (times n (minus (whole (pos 1)) eccentricity_squared)) h) latitude_sine

-- ---- the enclosure

-- a number of metres from a.lo / 2^48 to a.hi / 2^48
abbrev pub IsInInterval : Interval → Fraction → Type 0
IsInInterval a f = IsBetween
    (record { numerator = a.lo; denominator = 2 ^ 48 })
    (record { numerator = a.hi; denominator = 2 ^ 48 })
    f

-- a number of metres from lo to hi in units of 2^-8 m
abbrev pub IsInEnds : ℤ → ℤ → Fraction → Type 0
IsInEnds lo hi f = IsBetween
    (record { numerator = lo; denominator = 2 ^ 8 })
    (record { numerator = hi; denominator = 2 ^ 8 })
    f

-- The box has the point `metres` above the ellipsoid at the place, with the radii of curvature N from
-- radii.lo / 2^48 to radii.hi / 2^48. For every value of the latitude's sine, a / sqrt(1 - e^2 * sine^2) lies
-- between these two, which is said of the squares. And for every such N and all values of the sines and cosines
-- the formulas' numbers lie in the box.
pub record Encloses (place : Place) (metres : ℤ) (radii : Interval) (box : EcefBox) : Type 0 where
  pub positive : pos 0 <ℤ radii.lo
  pub radius_low : (s : Fraction) → IsLatitudeSine place s
      → IsAtMost (times (square (record { numerator = radii.lo; denominator = 2 ^ 48 })) (narrowing s))
      (square (whole (pos semi_major_axis)))
  pub radius_high : (s : Fraction) → IsLatitudeSine place s
      → IsAtMost (square (whole (pos semi_major_axis)))
      (times (square (record { numerator = radii.hi; denominator = 2 ^ 48 })) (narrowing s))
  pub x : (n c longitude_c : Fraction) → IsInInterval radii n → IsLatitudeCosine place c
      → IsLongitudeCosine place longitude_c
      → IsInEnds box.x_lo box.x_hi (x_at n (whole metres) c longitude_c)
  pub y : (n c longitude_s : Fraction) → IsInInterval radii n → IsLatitudeCosine place c
      → IsLongitudeSine place longitude_s
      → IsInEnds box.y_lo box.y_hi (y_at n (whole metres) c longitude_s)
  pub z : (n s : Fraction) → IsInInterval radii n → IsLatitudeSine place s
      → IsInEnds box.z_lo box.z_hi (z_at n (whole metres) s)
