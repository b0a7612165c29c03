-- The bounding sphere of boxes (quantized-mesh-1.0, BoundingSphere in the header).
use Rattle.std.specs.Prelude.{◌≡◌, ◌⊎◌, List, [], ◌∷◌, ℕ, ℤ, pos, ◌+◌, ◌*◌, ◌^◌, ◌≤◌, ◌==◌, ◌+ℤ◌, ◌-ℤ◌, ◌*ℤ◌, ◌≤ℤ◌, All}
use Rattle.std.specs.Prelude.{fold, unsigned_abs, if◌then◌else◌}
use Rattle.terrain_base.specs.Division.{floor_of, root_of}
use Rattle.ecef_boxes.specs.declared.ecef_box.EcefBox.{EcefBox}
use Rattle.bound_spheres.specs.declared.sphere.Sphere.{Sphere}
use Rattle.bound_spheres.specs.Hull.{IsLeast, IsGreatest, join_of}
use Rattle.bound_spheres.specs.Reach.{farthest_of}

-- ---- the centre

-- n is the middle between the least low end and the greatest high end, rounded down
pub record IsMiddle (low high : EcefBox → ℤ) (boxes : List EcefBox) (n : ℤ) : Type 0 where
  pub lo : ℤ
  pub hi : ℤ
  pub least : IsLeast low boxes lo
  pub greatest : IsGreatest high boxes hi
  pub middle : n ≡ floor_of (lo +ℤ hi) (pos 2)

-- ---- the radius

-- (x, y, z) is one of the eight corners of the box
pub record IsCorner (box : EcefBox) (x y z : ℤ) : Type 0 where
  pub on_x : (x ≡ box.x_lo) ⊎ (x ≡ box.x_hi)
  pub on_y : (y ≡ box.y_lo) ⊎ (y ≡ box.y_hi)
  pub on_z : (z ≡ box.z_lo) ⊎ (z ≡ box.z_hi)

-- the square of the distance of (x, y, z) from the centre of the sphere
abbrev pub distance_squared : Sphere → ℤ → ℤ → ℤ → ℤ
distance_squared sphere x y z =
    (((x -ℤ sphere.x) *ℤ (x -ℤ sphere.x)) +ℤ ((y -ℤ sphere.y) *ℤ (y -ℤ sphere.y)))
    +ℤ ((z -ℤ sphere.z) *ℤ (z -ℤ sphere.z))

-- no corner of the box is farther from the centre than r
pub record IsReached (sphere : Sphere) (r : ℤ) (box : EcefBox) : Type 0 where
  pub corner : (x y z : ℤ) → IsCorner box x y z → distance_squared sphere x y z ≤ℤ (r *ℤ r)

-- The sphere of the boxes. On each axis the centre is the middle of what the boxes span, and the radius is the
-- least whole number from 0 on that reaches every corner of every box.
pub record IsSphere (boxes : List EcefBox) (sphere : Sphere) : Type 0 where
  pub x : IsMiddle (λ box. box.x_lo) (λ box. box.x_hi) boxes sphere.x
  pub y : IsMiddle (λ box. box.y_lo) (λ box. box.y_hi) boxes sphere.y
  pub z : IsMiddle (λ box. box.z_lo) (λ box. box.z_hi) boxes sphere.z
  pub positive : pos 0 ≤ℤ sphere.radius
  pub reaches : All (IsReached sphere sphere.radius) boxes
  pub least : (r : ℤ) → pos 0 ≤ℤ r → All (IsReached sphere r) boxes → sphere.radius ≤ℤ r

-- the numbers of the centre are from -2^k to 2^k
pub record IsCentreWithin (k : ℕ) (sphere : Sphere) : Type 0 where
  pub x : unsigned_abs sphere.x ≤ 2 ^ k
  pub y : unsigned_abs sphere.y ≤ 2 ^ k
  pub z : unsigned_abs sphere.z ≤ 2 ^ k

-- the centre's numbers are from -2^33 to 2^33, and the radius is at most 2^35
pub record IsSmall (sphere : Sphere) : Type 0 where
  pub centre : IsCentreWithin 33 sphere
  pub radius : unsigned_abs sphere.radius ≤ 2 ^ 35

-- ---- the sphere as a function

-- the least whole number whose square is at least n
unfoldable pub root_up_of : ℕ → ℕ
root_up_of n = if root_of n * root_of n == n then root_of n else root_of n + 1

abbrev pub middle_of : ℤ → ℤ → ℤ
middle_of lo hi = floor_of (lo +ℤ hi) (pos 2)

-- round the least box that has all boxes, with its middle
abbrev pub sphere_in : EcefBox → List EcefBox → Sphere
sphere_in hull boxes =
    let x = middle_of hull.x_lo hull.x_hi in
    let y = middle_of hull.y_lo hull.y_hi in
    let z = middle_of hull.z_lo hull.z_hi in
    record { x = x; y = y; z = z; radius = pos (root_up_of (farthest_of x y z boxes)) }

-- the sphere of boxes, of which there is at least one; with none, all its numbers are 0
unfoldable pub sphere_of : List EcefBox → Sphere
sphere_of [] = record { x = pos 0; y = pos 0; z = pos 0; radius = pos 0 }
sphere_of (box ∷ boxes) = sphere_in (fold join_of box (box ∷ boxes)) (box ∷ boxes)
