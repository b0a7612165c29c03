use Rattle.std.proofs.Common.{◌^◌, lit≤, arith, FitsSigned}
use Rattle.std.proofs.lemmas.Int.{ints, to_z-of_z}
use lib.IntN.{◌+ℤ◌}
use mir.Syntax.{w64}
use Rattle.cell_mosaic.proofs.Shorts.{sum_fits}
use Rattle.cell_mosaic.proofs.short_blend.sum_of_four.Goals as goal

pub returns-clause-value : goal.returns-clause-value
returns-clause-value c =
    let sw_fits : FitsSigned w64 c.args.sw = c.ranges.sw in
    let se_fits : FitsSigned w64 c.args.se = c.ranges.se in
    let nw_fits : FitsSigned w64 c.args.nw = c.ranges.nw in
    let ne_fits : FitsSigned w64 c.args.ne = c.ranges.ne in
    let two : FitsSigned w64 (c.args.nw +ℤ c.args.ne) = sum_fits (2 ^ 48) _ (lit≤ tt) c.requires.two in
    let three : FitsSigned w64 (c.args.se +ℤ (c.args.nw +ℤ c.args.ne)) =
    sum_fits (2 ^ 48) _ (lit≤ tt) c.requires.three in
    let four : FitsSigned w64 (c.args.sw +ℤ (c.args.se +ℤ (c.args.nw +ℤ c.args.ne))) =
    sum_fits (2 ^ 48) _ (lit≤ tt) c.requires.four in
    simp to_z-of_z (omega (arith, ints))
