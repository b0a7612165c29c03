use Rattle.std.proofs.Common.{rules, FitsSigned}
use Rattle.std.proofs.lemmas.Int.{to_z-of_z}
use mir.Syntax.{w64}
use Rattle.bound_spheres.proofs.Hulls.{join_is}
use Rattle.bound_spheres.proofs.extent.join.Goals as goal

pub returns : goal.returns
returns c =
    let xloa : FitsSigned w64 c.args.a.now.x_lo = search rules in
    let xlob : FitsSigned w64 c.args.b.now.x_lo = search rules in
    let xlor : FitsSigned w64 c.min.result = search rules in
    let xhia : FitsSigned w64 c.args.a.now.x_hi = search rules in
    let xhib : FitsSigned w64 c.args.b.now.x_hi = search rules in
    let xhir : FitsSigned w64 c.max.result = search rules in
    let yloa : FitsSigned w64 c.args.a.now.y_lo = search rules in
    let ylob : FitsSigned w64 c.args.b.now.y_lo = search rules in
    let ylor : FitsSigned w64 c.min-2.result = search rules in
    let yhia : FitsSigned w64 c.args.a.now.y_hi = search rules in
    let yhib : FitsSigned w64 c.args.b.now.y_hi = search rules in
    let yhir : FitsSigned w64 c.max-2.result = search rules in
    let zloa : FitsSigned w64 c.args.a.now.z_lo = search rules in
    let zlob : FitsSigned w64 c.args.b.now.z_lo = search rules in
    let zlor : FitsSigned w64 c.min-3.result = search rules in
    let zhia : FitsSigned w64 c.args.a.now.z_hi = search rules in
    let zhib : FitsSigned w64 c.args.b.now.z_hi = search rules in
    let zhir : FitsSigned w64 c.max-3.result = search rules in
    simp to_z-of_z (join_is c.args.a.now c.args.b.now _ _ _ _ _ _
    (simp to_z-of_z at c.min.ensures.value)
    (simp to_z-of_z at c.max.ensures.value)
    (simp to_z-of_z at c.min-2.ensures.value)
    (simp to_z-of_z at c.max-2.ensures.value)
    (simp to_z-of_z at c.min-3.ensures.value)
    (simp to_z-of_z at c.max-3.ensures.value))
