-- The two ends, by the steps before them.
use Rattle.std.proofs.Common.{arith, rules, FitsSigned, w64}
use Rattle.std.specs.Prelude.{pos, ◌+ℤ◌}
use Rattle.std.proofs.lemmas.Int.{ints, to_z-of_z}
use Rattle.lattice_sweep.proofs.Cuts.{cut_is}
use Rattle.lattice_sweep.proofs.axis.Axis.cut.Goals as goal

pub returns-clause-cut : goal.returns-clause-cut
returns-clause-cut c =
    let a = c.args.self.now in
    let low_range = c.ranges.low in let high_range = c.ranges.high in
    let first_fits : FitsSigned w64 a.first = search rules in
    let step_fits : FitsSigned w64 a.step = search rules in
    let past_high_fits : FitsSigned w64 (c.args.high +ℤ pos 1) = omega (arith, ints, c.requires.high) in
    let steps_to_low = simp to_z-of_z at c.before-2.ensures.steps in
    let steps_to_high = simp to_z-of_z at c.before-3.ensures.steps in
    simp to_z-of_z (cut_is a c.args.low c.args.high c.before-2.result c.before-3.result
    c.max-from.result c.min.result c.min-to.result steps_to_low steps_to_high
    c.max-from.ensures c.min.ensures c.min-to.ensures (omega arith))
