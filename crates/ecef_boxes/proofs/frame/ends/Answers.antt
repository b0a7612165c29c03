use Rattle.std.proofs.Common.{rules, FitsSigned}
use Rattle.std.proofs.lemmas.Int.{to_z-of_z}
use mir.Syntax.{w128, w64}
use Rattle.ecef_boxes.proofs.Ends.{ends_is}
use Rattle.ecef_boxes.proofs.frame.ends.Goals as goal

pub returns-clause-exact : goal.returns-clause-exact
returns-clause-exact c =
    let xloa : FitsSigned w128 c.args.x.now.lo = search rules in
    let xlor : FitsSigned w64 c.down.result = search rules in
    let xhia : FitsSigned w128 c.args.x.now.hi = search rules in
    let xhir : FitsSigned w64 c.up.result = search rules in
    let yloa : FitsSigned w128 c.args.y.now.lo = search rules in
    let ylor : FitsSigned w64 c.down-2.result = search rules in
    let yhia : FitsSigned w128 c.args.y.now.hi = search rules in
    let yhir : FitsSigned w64 c.up-2.result = search rules in
    let zloa : FitsSigned w128 c.args.z.now.lo = search rules in
    let zlor : FitsSigned w64 c.down-3.result = search rules in
    let zhia : FitsSigned w128 c.args.z.now.hi = search rules in
    let zhir : FitsSigned w64 c.up-3.result = search rules in
    simp to_z-of_z (ends_is c.args.x.now c.args.y.now c.args.z.now _ _ _ _ _ _
    (simp to_z-of_z at c.down.ensures.exact)
    (simp to_z-of_z at c.up.ensures.exact)
    (simp to_z-of_z at c.down-2.ensures.exact)
    (simp to_z-of_z at c.up-2.ensures.exact)
    (simp to_z-of_z at c.down-3.ensures.exact)
    (simp to_z-of_z at c.up-3.ensures.exact))
