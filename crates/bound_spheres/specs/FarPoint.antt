-- A point far above the centre of a sphere (quantized-mesh-1.0, HorizonOcclusionPoint in the header).
use Rattle.std.specs.Prelude.{ℤ, pos, List, [], ◌∷◌, ◌*◌, ◌-◌, ◌*ℤ◌, ◌^◌}
use Rattle.terrain_base.specs.Division.{floor_of}
use Rattle.ecef_boxes.specs.Ellipsoid.{semi_major_axis}
use Rattle.bound_spheres.specs.declared.sphere.Sphere.{Sphere}

-- A number n of the x or y axis in units of 2^-8 m, over the semi-major axis a and sixteen times, in units of
-- 2^-28 and rounded down: n / 2^8 / a * 16 * 2^28 is n * 2^24 / a.
unfoldable pub equatorial_of : ℤ → ℤ
equatorial_of n = floor_of (n *ℤ pos (2 ^ 24)) (pos semi_major_axis)

-- A number of the z axis, over the semi-minor axis a * (1 - f) likewise, where f is 10^9 / 298257223563.
unfoldable pub polar_of : ℤ → ℤ
polar_of n = floor_of (n *ℤ pos (2 ^ 24 * 298257223563)) (pos (semi_major_axis * (298257223563 - 10 ^ 9)))

-- sixteen times the sphere's centre, scaled by the axes of the WGS 84 ellipsoid
abbrev pub far_point_of : Sphere → List ℤ
far_point_of sphere = equatorial_of sphere.x ∷ equatorial_of sphere.y ∷ polar_of sphere.z ∷ []
