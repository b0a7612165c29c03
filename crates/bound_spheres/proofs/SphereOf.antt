-- The function for the sphere of boxes.
use Rattle.std.proofs.Common.{◌≡◌, ℕ, ◌+◌, ◌*◌, ◌^◌, ◌<◌, ◌≤◌, arith, Bool, true, false, nat_eq, refl, inl, inr, List, [], ◌∷◌, length, All}
use Rattle.std.specs.Prelude.{unsigned_abs, fold, if◌then◌else◌}
use Rattle.std.proofs.lemmas.Bool.Decides.{nat_tests}
use Rattle.std.proofs.lemmas.Bool.{cases_lt}
use Rattle.std.proofs.Math.Nat.{mul-le-mul}
use Rattle.std.proofs.lemmas.List.Elements.{All-weaker}
use Rattle.terrain_base.specs.Division.{IsRoot, root_of}
use Rattle.terrain_base.proofs.Quotients.{root_is}
use Rattle.ecef_boxes.specs.declared.ecef_box.EcefBox.{EcefBox}
use Rattle.ecef_boxes.specs.Bounds.{IsBoxWithin}
use Rattle.bound_spheres.specs.Hull.{IsHull, join_of}
use Rattle.bound_spheres.specs.Reach.{farthest_of}
use Rattle.bound_spheres.specs.Sphere.{IsSphere, IsSmall, root_up_of, middle_of, sphere_in, sphere_of}
use Rattle.bound_spheres.proofs.Farthest.{farthest_few}
use Rattle.bound_spheres.proofs.Hulls.{hull_is, hull_within}
use Rattle.bound_spheres.proofs.Spheres.{middle_small, sphere_is}

-- ---- roots that are rounded up
yes : (m n : ℕ) → nat_eq m n ≡ true → m ≡ n
yes m n e = grind (arith, nat_tests)

no : (m n : ℕ) → nat_eq m n ≡ false → m ≡ n → ⊥
no m n e f = grind (arith, nat_tests)

record IsRootUp (n r : ℕ) : Type 0 where
  up : n ≤ r * r
  least : (k : ℕ) → n ≤ k * k → r ≤ k

root_up_by : (n r : ℕ) → IsRoot n r → (b : Bool) → nat_eq (r * r) n ≡ b → IsRootUp n (if b then r else r + 1)
root_up_by n r h true e =
    let same = yes (r * r) n e in
    record {
      up = omega (arith, same);
      least = λ k l. elim (cases_lt k r) [
        | inl less ↦
            let next : k + 1 ≤ r = omega (arith, less) in
            absurd (omega (arith, same, l, mul-le-mul next next))
        | inr fine ↦ fine
      ];
    }
root_up_by n r h false e =
    record {
      up = omega (arith, h.high);
      least = λ k l. elim (cases_lt k (r + 1)) [
        | inl less ↦
            let most : k ≤ r = omega (arith, less) in
            absurd (no (r * r) n e (omega (arith, l, h.low, mul-le-mul most most)))
        | inr fine ↦ fine
      ];
    }

root_up_is : (n : ℕ) → IsRootUp n (root_up_of n)
unfolding root_up_of
root_up_is n = root_up_by n (root_of n) (root_is n) (nat_eq (root_of n * root_of n) n) refl

sphere_by : (boxes : List EcefBox) (hull : EcefBox) → IsHull boxes hull → IsSphere boxes (sphere_in hull boxes)
sphere_by boxes hull h =
    let x = middle_of hull.x_lo hull.x_hi in
    let y = middle_of hull.y_lo hull.y_hi in
    let z = middle_of hull.z_lo hull.z_hi in
    let r = root_up_is (farthest_of x y z boxes) in
    sphere_is boxes hull x y z (root_up_of (farthest_of x y z boxes)) h refl refl refl r.up r.least

hull_of_all : (box : EcefBox) (boxes : List EcefBox) → IsHull (box ∷ boxes) (fold join_of box (box ∷ boxes))
hull_of_all box boxes = hull_is box (box ∷ boxes) (0, omega arith, refl)

-- ---- the sphere of boxes
pub sphere_of_is : (boxes : List EcefBox) → 0 < length boxes → IsSphere boxes (sphere_of boxes)
unfolding sphere_of
sphere_of_is [] h = absurd (omega (arith, h))
sphere_of_is (box ∷ boxes) h = sphere_by (box ∷ boxes) (fold join_of box (box ∷ boxes)) (hull_of_all box boxes)

pub wide_box : (box : EcefBox) → IsBoxWithin 31 box → IsBoxWithin 33 box
wide_box box h = record {
  x_lo = omega (arith, h.x_lo);
  x_hi = omega (arith, h.x_hi);
  y_lo = omega (arith, h.y_lo);
  y_hi = omega (arith, h.y_hi);
  z_lo = omega (arith, h.z_lo);
  z_hi = omega (arith, h.z_hi);
}

small_by : (boxes : List EcefBox) (hull : EcefBox) → IsHull boxes hull → All (IsBoxWithin 33) boxes → IsSmall (sphere_in hull boxes)
small_by boxes hull h all =
    let w = hull_within boxes hull h all in
    let x = middle_of hull.x_lo hull.x_hi in
    let y = middle_of hull.y_lo hull.y_hi in
    let z = middle_of hull.z_lo hull.z_hi in
    let p : unsigned_abs x ≤ 2 ^ 33 = middle_small hull.x_lo hull.x_hi w.x_lo w.x_hi in
    let q : unsigned_abs y ≤ 2 ^ 33 = middle_small hull.y_lo hull.y_hi w.y_lo w.y_hi in
    let r : unsigned_abs z ≤ 2 ^ 33 = middle_small hull.z_lo hull.z_hi w.z_lo w.z_hi in
    let far = farthest_few x y z boxes p q r all in
    record {
      centre = record { x = p; y = q; z = r };
      radius = (root_up_is (farthest_of x y z boxes)).least (2 ^ 35) (omega (arith, far));
    }

pub sphere_small : (boxes : List EcefBox) → 0 < length boxes → All (IsBoxWithin 31) boxes → IsSmall (sphere_of boxes)
unfolding sphere_of
sphere_small [] h all = absurd (omega (arith, h))
sphere_small (box ∷ boxes) h all =
    small_by (box ∷ boxes) (fold join_of box (box ∷ boxes)) (hull_of_all box boxes)
    (All-weaker (IsBoxWithin 31) (IsBoxWithin 33) wide_box (box ∷ boxes) all)
