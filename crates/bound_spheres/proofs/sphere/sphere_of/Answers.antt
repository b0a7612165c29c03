use Rattle.std.proofs.Common.{◌≡◌, ◌^◌, arith, rules, FitsSigned, to_z}
use Rattle.std.proofs.lemmas.Int.{ints, to_z-of_z, to_z_pos}
use Rattle.std.specs.Prelude.{pos, ◌≤ℤ◌}
use mir.Syntax.{w64}
use Rattle.bound_spheres.specs.Sphere.{IsCentreWithin}
use Rattle.bound_spheres.proofs.OneSphere.{one_sphere}
use Rattle.bound_spheres.proofs.SphereOf.{sphere_of_is}
use Rattle.bound_spheres.proofs.Spheres.{sphere_is}
use Rattle.bound_spheres.proofs.sphere.sphere_of.Goals as goal

pub returns : goal.returns
returns c =
    let hull = c.hull-hull.result in
    let x : FitsSigned w64 c.middle-x.result = search rules in
    let y : FitsSigned w64 c.middle-y.result = search rules in
    let z : FitsSigned w64 c.middle-z.result = search rules in
    let x_lo : FitsSigned w64 hull.x_lo = search rules in
    let x_hi : FitsSigned w64 hull.x_hi = search rules in
    let y_lo : FitsSigned w64 hull.y_lo = search rules in
    let y_hi : FitsSigned w64 hull.y_hi = search rules in
    let z_lo : FitsSigned w64 hull.z_lo = search rules in
    let z_hi : FitsSigned w64 hull.z_hi = search rules in
    let n = c.root_up.result in
    let radius : to_z w64 n ≡ pos n = to_z_pos w64 n (omega (arith, c.root_up.ensures.few)) in
    let far = simp to_z-of_z at c.farthest.ensures.exact in
    let up = rw far at c.root_up.ensures.up in
    let least = rw far at c.root_up.ensures.least in
    let sphere = sphere_is c.args.boxes.now hull c.middle-x.result c.middle-y.result c.middle-z.result n
    c.hull-hull.ensures.hull (simp to_z-of_z at c.middle-x.ensures.exact)
    (simp to_z-of_z at c.middle-y.ensures.exact) (simp to_z-of_z at c.middle-z.ensures.exact) up least in
    let few : pos n ≤ℤ pos (2 ^ 35) = omega (arith, ints, c.root_up.ensures.few) in
    let centre : IsCentreWithin 33
    (record { x = c.middle-x.result; y = c.middle-y.result; z = c.middle-z.result; radius = pos n }) = record {
      x = c.middle-x.ensures.size;
      y = c.middle-y.ensures.size;
      z = c.middle-z.ensures.size;
    } in
    record {
      sphere = rw radius (simp to_z-of_z sphere);
      centre = rw radius (simp to_z-of_z centre);
      radius = rw radius few;
      exact = rw radius (simp to_z-of_z (one_sphere c.args.boxes.now _ _ sphere (sphere_of_is c.args.boxes.now c.requires.some)));
    }
