use Rattle.std.proofs.Common.{rules, FitsSigned}
use Rattle.std.proofs.lemmas.Int.{to_z-of_z}
use mir.Syntax.{w128}
use Rattle.whole_interval.proofs.interval.least_over.Goals as goal

pub returns : goal.returns
returns c =
    let p : FitsSigned w128 c.args.p = search rules in
    let q : FitsSigned w128 c.args.q = search rules in
    let r : FitsSigned w128 c.args.r = search rules in
    let s : FitsSigned w128 c.args.s = search rules in
    let first : FitsSigned w128 c.min.result = search rules in
    let second : FitsSigned w128 c.min-2.result = search rules in
    let both : FitsSigned w128 c.min-3.result = search rules in
    let over : FitsSigned w128 c.floor_div.result = search rules in
    let first_least = simp to_z-of_z at c.min.ensures.value in
    let second_least = simp to_z-of_z at c.min-2.ensures.value in
    let least_of_both = simp to_z-of_z at c.min-3.ensures.value in
    simp to_z-of_z (rw (least_of_both, first_least, second_least) at (simp to_z-of_z at c.floor_div.ensures.exact))
