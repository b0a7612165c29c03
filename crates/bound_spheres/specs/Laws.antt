-- What holds of all spheres of boxes.
use Rattle.std.specs.Prelude.{◌≡◌, ◌<◌, List, length, All}
use Rattle.ecef_boxes.specs.declared.ecef_box.EcefBox.{EcefBox}
use Rattle.ecef_boxes.specs.Bounds.{IsBoxWithin}
use Rattle.bound_spheres.specs.declared.sphere.Sphere.{Sphere}
use Rattle.bound_spheres.specs.Sphere.{IsSphere, IsSmall, sphere_of}

-- the boxes fix their sphere
abbrev pub OneSphereLaw : Type 0
OneSphereLaw = (boxes : List EcefBox) (a b : Sphere) → IsSphere boxes a → IsSphere boxes b → a ≡ b

-- boxes, of which there is at least one, have a sphere, and those with numbers within 2^31 a small one
pub record SphereLaw : Type 0 where
  pub sphere : (boxes : List EcefBox) → 0 < length boxes → IsSphere boxes (sphere_of boxes)
  pub size : (boxes : List EcefBox) → 0 < length boxes → All (IsBoxWithin 31) boxes → IsSmall (sphere_of boxes)
