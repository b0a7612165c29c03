use Rattle.std.proofs.Common.{arith, rules, FitsSigned}
use Rattle.std.proofs.lemmas.Int.{to_z-of_z}
use mir.Syntax.{w64}
use Rattle.bound_spheres.proofs.Farthest.{reach_is}
use Rattle.bound_spheres.proofs.distance.reach.Goals as goal

pub returns : goal.returns
returns c =
    let corners = c.args.corners.now in
    let x : FitsSigned w64 c.args.x = search rules in
    let y : FitsSigned w64 c.args.y = search rules in
    let z : FitsSigned w64 c.args.z = search rules in
    let x_lo : FitsSigned w64 corners.x_lo = search rules in
    let x_hi : FitsSigned w64 corners.x_hi = search rules in
    let y_lo : FitsSigned w64 corners.y_lo = search rules in
    let y_hi : FitsSigned w64 corners.y_hi = search rules in
    let z_lo : FitsSigned w64 corners.z_lo = search rules in
    let z_hi : FitsSigned w64 corners.z_hi = search rules in
    record {
      exact = reach_is c.args.x c.args.y c.args.z corners _ _ _ (simp to_z-of_z at c.span.ensures.exact)
          (simp to_z-of_z at c.span-2.ensures.exact) (simp to_z-of_z at c.span-3.ensures.exact);
      few = omega (arith, c.span.ensures.few, c.span-2.ensures.few, c.span-3.ensures.few);
    }
