-- The certified horizon: a multiple of the scaled centre from which no corner of a scaled box is seen.
use Rattle.std.specs.Prelude.{ℕ, ◌+◌, ◌*◌, ◌^◌, ◌≤◌, ℤ, pos, ◌+ℤ◌, ◌-ℤ◌, ◌*ℤ◌, ◌≤ℤ◌, int_le, unsigned_abs}
use Rattle.std.specs.Prelude.{Bool, ◌&&◌, List, [], ◌∷◌, map, flat_map, Option, Some, None, All}
use Rattle.std.specs.List.{find, list_all, range_with_len}
use Rattle.std.specs.Int.{int_max}
use Rattle.terrain_base.specs.Division.{floor_of, ceil_of}
use Rattle.ecef_boxes.specs.Ellipsoid.{semi_major_axis}
use Rattle.ecef_boxes.specs.declared.ecef_box.EcefBox.{EcefBox}
use Rattle.bound_spheres.specs.declared.sphere.Sphere.{Sphere}
use Rattle.bound_spheres.specs.declared.scaled.Vector.{Vector}

-- ---- vectors

abbrev pub vector : ℤ → ℤ → ℤ → Vector
vector x y z = record { x = x; y = y; z = z }

abbrev pub dot : Vector → Vector → ℤ
dot a b = ((a.x *ℤ b.x) +ℤ (a.y *ℤ b.y)) +ℤ (a.z *ℤ b.z)

abbrev pub cross : Vector → Vector → Vector
cross a b = vector (a.y *ℤ b.z -ℤ a.z *ℤ b.y) (a.z *ℤ b.x -ℤ a.x *ℤ b.z) (a.x *ℤ b.y -ℤ a.y *ℤ b.x)

abbrev pub length_squared : Vector → ℤ
length_squared a = dot a a

-- its numbers are from -2^k to 2^k
pub record IsVectorWithin (k : ℕ) (a : Vector) : Type 0 where
  pub x : unsigned_abs a.x ≤ 2 ^ k
  pub y : unsigned_abs a.y ≤ 2 ^ k
  pub z : unsigned_abs a.z ≤ 2 ^ k

-- ---- scaled numbers, in units of 2^-18 of the ellipsoid's axes

-- A number of the z axis in units of 2^-8 m is scaled by this over the divisor: the semi-minor axis is
-- a * (1 - f), where f is 10^9 / 298257223563.
abbrev pub polar_numerator : ℕ
polar_numerator = 1024 * 298257223563

abbrev pub polar_divisor : ℕ
polar_divisor = semi_major_axis * 297257223563

-- a number of the x or y axis, rounded down
unfoldable pub equatorial_down : ℤ → ℤ
equatorial_down n = floor_of (n *ℤ pos 1024) (pos semi_major_axis)

-- rounded up
unfoldable pub equatorial_up : ℤ → ℤ
equatorial_up n = ceil_of (n *ℤ pos 1024) (pos semi_major_axis)

-- a number of the z axis, rounded down
unfoldable pub polar_down : ℤ → ℤ
polar_down n = floor_of (n *ℤ pos polar_numerator) (pos polar_divisor)

-- rounded up
unfoldable pub polar_up : ℤ → ℤ
polar_up n = ceil_of (n *ℤ pos polar_numerator) (pos polar_divisor)

abbrev pub scaled_centre : Sphere → Vector
scaled_centre s = vector (equatorial_down s.x) (equatorial_down s.y) (polar_down s.z)

-- the eight corners of the scaled box
abbrev pub scaled_corners : EcefBox → List Vector
scaled_corners b =
    flat_map (λ x. flat_map (λ y. map (λ z. vector x y z) (polar_down b.z_lo ∷ polar_up b.z_hi ∷ []))
    (equatorial_down b.y_lo ∷ equatorial_up b.y_hi ∷ [])) (equatorial_down b.x_lo ∷ equatorial_up b.x_hi ∷ [])

-- ---- what hides a corner

-- how far the point m/256 times the centre reaches over the plane that the corner's horizon lies in
abbrev pub reach : ℕ → Vector → Vector → ℤ
reach m c p = pos m *ℤ dot c p -ℤ pos 256 *ℤ length_squared p

-- The corner is hidden only from points beyond: m/256 times the scaled centre hides no corner that is seen from
-- it. This is the horizon test on a unit sphere, in whole numbers.
pub record Hides (m : ℕ) (c p : Vector) : Type 0 where
  pub corner : length_squared p ≤ℤ pos (2 ^ 36 + 2 ^ 29)
  pub centre : length_squared c ≤ℤ pos (2 ^ 36 + 2 ^ 29)
  pub above : pos 0 ≤ℤ reach m c p
  pub beyond : ((int_max (length_squared p -ℤ pos (2 ^ 36)) (pos 0) *ℤ pos (m * m)) *ℤ length_squared (cross c p))
      ≤ℤ ((reach m c p *ℤ reach m c p) *ℤ pos (2 ^ 36))

-- the same as a test
unfoldable pub hides_of : Vector → Vector → ℕ → Bool
hides_of c p m =
    int_le (length_squared p) (pos (2 ^ 36 + 2 ^ 29)) && (int_le (length_squared c) (pos (2 ^ 36 + 2 ^ 29))
    && (int_le (pos 0) (reach m c p)
    && int_le ((int_max (length_squared p -ℤ pos (2 ^ 36)) (pos 0) *ℤ pos (m * m)) *ℤ length_squared (cross c p))
    ((reach m c p *ℤ reach m c p) *ℤ pos (2 ^ 36))))

-- ---- several corners at once

-- no corner is longer than the square says, and none lies less far along the centre than the product says
pub record Bounds (c : Vector) (corners : List Vector) (square product : ℤ) : Type 0 where
  pub squares : All (λ p. length_squared p ≤ℤ square) corners
  pub products : All (λ p. product ≤ℤ dot c p) corners

-- ---- the horizon

-- the least multiple from 256 to 4096, in 256ths, that hides all corners of all boxes
unfoldable pub horizon_of : Sphere → List EcefBox → Option ℕ
horizon_of sphere boxes =
    find (λ m. list_all (λ p. hides_of (scaled_centre sphere) p m) (flat_map scaled_corners boxes))
    (range_with_len 256 3841)

-- every corner is hidden at this multiple
pub record IsHidden (m : ℕ) (sphere : Sphere) (boxes : List EcefBox) : Type 0 where
  pub corners : All (λ p. Hides m (scaled_centre sphere) p) (flat_map scaled_corners boxes)

-- m is the least multiple from 256 to 4096 at which every corner is hidden
pub record IsLeastHidden (sphere : Sphere) (boxes : List EcefBox) (m : ℕ) : Type 0 where
  pub from : 256 ≤ m
  pub to : m ≤ 4096
  pub hidden : IsHidden m sphere boxes
  pub least : (k : ℕ) → 256 ≤ k → IsHidden k sphere boxes → m ≤ k

-- the same in words, and None where no multiple from 256 to 4096 hides every corner
abbrev pub IsHorizon : Sphere → List EcefBox → Option ℕ → Type 0
IsHorizon sphere boxes (Some m) = IsLeastHidden sphere boxes m
IsHorizon sphere boxes None = (k : ℕ) → 256 ≤ k → k ≤ 4096 → ¬ (IsHidden k sphere boxes)
