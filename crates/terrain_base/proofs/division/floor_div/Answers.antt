use Rattle.std.proofs.Common.{rules, FitsSigned, sym, ◌∙◌}
use Rattle.std.proofs.lemmas.Int.{to_z-of_z}
use mir.Syntax.{w128}
use Rattle.terrain_base.proofs.Quotients.{floor_is, floor_is_euclid}
use Rattle.terrain_base.proofs.division.floor_div.Goals as goal

pub returns-clause-exact : goal.returns-clause-exact
returns-clause-exact c =
    let a : FitsSigned w128 c.args.a = search rules in
    let b : FitsSigned w128 c.args.b = search rules in
    let q : FitsSigned w128 c.div_euclid.result = search rules in
    simp to_z-of_z ((simp to_z-of_z at c.div_euclid.ensures) ∙ sym (floor_is_euclid c.args.a c.args.b))

pub returns-clause-floor : goal.returns-clause-floor
returns-clause-floor c =
    let a : FitsSigned w128 c.args.a = search rules in
    let b : FitsSigned w128 c.args.b = search rules in
    let q : FitsSigned w128 c.div_euclid.result = search rules in
    let e = (simp to_z-of_z at c.div_euclid.ensures) ∙ sym (floor_is_euclid c.args.a c.args.b) in
    simp to_z-of_z (rw e (floor_is c.args.a c.args.b c.requires))
