-- The sphere that the code computes is the sphere of the boxes.
use Rattle.std.proofs.Common.{◌≡◌, ℕ, ◌*◌, ◌≤◌, ◌^◌, arith, List, All}
use Rattle.std.proofs.lemmas.Int.{ints}
use Rattle.std.proofs.lemmas.List.Elements.{All-weaker}
use Rattle.std.specs.Prelude.{ℤ, pos, negsuc, ◌+ℤ◌, ◌≤ℤ◌, unsigned_abs}
use Rattle.terrain_base.specs.Division.{floor_of}
use Rattle.terrain_base.proofs.Quotients.{floor_is}
use Rattle.ecef_boxes.specs.declared.ecef_box.EcefBox.{EcefBox}
use Rattle.bound_spheres.specs.declared.sphere.Sphere.{Sphere}
use Rattle.bound_spheres.specs.Sphere.{IsReached, IsSphere}
use Rattle.bound_spheres.specs.Hull.{IsHull}
use Rattle.bound_spheres.specs.Reach.{farthest_of, reach_of}
use Rattle.bound_spheres.proofs.Farthest.{box_reached, farthest_each, farthest_most, reached_back}

pub middle_small : (lo hi : ℤ) → unsigned_abs lo ≤ 2 ^ 33 → unsigned_abs hi ≤ 2 ^ 33
    → unsigned_abs (floor_of (lo +ℤ hi) (pos 2)) ≤ 2 ^ 33
middle_small lo hi p q =
    let f = floor_is (lo +ℤ hi) (pos 2) (omega (arith, ints)) in
    omega (arith, ints, p, q, f.low, f.high)

-- what reaches every corner is at least the root of the greatest square, rounded up
no_less : (boxes : List EcefBox) (sphere : Sphere) (n : ℕ)
    → ((k : ℕ) → farthest_of sphere.x sphere.y sphere.z boxes ≤ k * k → n ≤ k) → (r : ℤ) → pos 0 ≤ℤ r
    → All (IsReached sphere r) boxes → pos n ≤ℤ r
no_less boxes sphere n least (pos k) p h =
    let all = All-weaker (IsReached sphere (pos k)) (λ b. reach_of sphere.x sphere.y sphere.z b ≤ k * k)
    (λ b g. reached_back sphere k b g) boxes h in
    let fine = least k (farthest_most sphere.x sphere.y sphere.z (k * k) boxes all) in
    omega (arith, ints, fine)
no_less boxes sphere n least (negsuc k) p h = absurd (omega (arith, ints, p))

all_reached : (boxes : List EcefBox) (sphere : Sphere) (n : ℕ)
    → farthest_of sphere.x sphere.y sphere.z boxes ≤ n * n → All (IsReached sphere (pos n)) boxes
all_reached boxes sphere n h =
    All-weaker (λ b. reach_of sphere.x sphere.y sphere.z b ≤ farthest_of sphere.x sphere.y sphere.z boxes)
    (IsReached sphere (pos n)) (λ b g. box_reached sphere n b (omega (arith, g, h))) boxes
    (farthest_each sphere.x sphere.y sphere.z boxes)

pub sphere_is : (boxes : List EcefBox) (hull : EcefBox) (x y z : ℤ) (n : ℕ) → IsHull boxes hull
    → x ≡ floor_of (hull.x_lo +ℤ hull.x_hi) (pos 2) → y ≡ floor_of (hull.y_lo +ℤ hull.y_hi) (pos 2)
    → z ≡ floor_of (hull.z_lo +ℤ hull.z_hi) (pos 2) → farthest_of x y z boxes ≤ n * n
    → ((k : ℕ) → farthest_of x y z boxes ≤ k * k → n ≤ k)
    → IsSphere boxes (record { x = x; y = y; z = z; radius = pos n })
sphere_is boxes hull x y z n h p q r up least =
    let sphere : Sphere = record { x = x; y = y; z = z; radius = pos n } in
    record {
      x = record { lo = hull.x_lo; hi = hull.x_hi; least = h.x_lo; greatest = h.x_hi; middle = p };
      y = record { lo = hull.y_lo; hi = hull.y_hi; least = h.y_lo; greatest = h.y_hi; middle = q };
      z = record { lo = hull.z_lo; hi = hull.z_hi; least = h.z_lo; greatest = h.z_hi; middle = r };
      positive = omega (arith, ints);
      reaches = all_reached boxes sphere n up;
      least = no_less boxes sphere n least;
    }
