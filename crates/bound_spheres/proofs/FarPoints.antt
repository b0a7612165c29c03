-- The numbers of the far point.
use Rattle.std.proofs.Common.{◌≡◌, ◌≤◌, ◌*◌, ◌-◌, ◌^◌, arith}
use Rattle.std.proofs.lemmas.Int.{ints}
use Rattle.std.specs.Prelude.{ℤ, pos, ◌*ℤ◌, unsigned_abs}
use Rattle.terrain_base.specs.Division.{floor_of}
use Rattle.terrain_base.proofs.Quotients.{floor_is}
use Rattle.ecef_boxes.specs.Ellipsoid.{semi_major_axis}
use Rattle.bound_spheres.specs.FarPoint.{equatorial_of, polar_of}

pub equatorial_is : (n q : ℤ) → q ≡ floor_of (n *ℤ pos (2 ^ 24)) (pos semi_major_axis) → q ≡ equatorial_of n
unfolding equatorial_of
equatorial_is n q e = e

pub polar_is : (n q : ℤ)
    → q ≡ floor_of (n *ℤ pos (2 ^ 24 * 298257223563)) (pos (semi_major_axis * (298257223563 - 10 ^ 9)))
    → q ≡ polar_of n
unfolding polar_of
polar_is n q e = e

pub equatorial_small : (n : ℤ) → unsigned_abs n ≤ 2 ^ 33 → unsigned_abs (equatorial_of n) ≤ 2 ^ 40
unfolding equatorial_of
equatorial_small n h =
    let f = floor_is (n *ℤ pos (2 ^ 24)) (pos semi_major_axis) (omega (arith, ints)) in
    omega (arith, ints, h, f.low, f.high)

pub polar_small : (n : ℤ) → unsigned_abs n ≤ 2 ^ 33 → unsigned_abs (polar_of n) ≤ 2 ^ 40
unfolding polar_of
polar_small n h =
    let f = floor_is (n *ℤ pos (2 ^ 24 * 298257223563)) (pos (semi_major_axis * (298257223563 - 10 ^ 9)))
    (omega (arith, ints)) in
    omega (arith, ints, h, f.low, f.high)
