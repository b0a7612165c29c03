use Rattle.std.proofs.Common.{arith, FitsSigned}
use Rattle.std.specs.Prelude.{◌*ℤ◌, ◌*◌, ◌+ℤ◌, pos}
use Rattle.std.specs.Int.{w128}
use Rattle.std.proofs.lemmas.Int.{ints, to_z-of_z, to_z_pos}
use Rattle.cell_mosaic.proofs.Sums.{rounded_height}
use Rattle.cell_mosaic.proofs.blending.quotient.Goals as goal

pub returns-clause-height : goal.returns-clause-height
returns-clause-height c =
    let sum = c.args.sum in
    let within = c.requires.within in
    let short = c.requires.unit in
    let doubled_fits : FitsSigned w128 (sum *ℤ pos 2) = omega (arith, ints, within.above, within.below, short) in
    let upper_fits : FitsSigned w128 ((sum *ℤ pos 2) +ℤ pos c.args.unit) = omega (arith, ints, within.above, within.below, short) in
    let unit_is = to_z_pos w128 c.args.unit (omega (arith, short)) in
    let twice_is = to_z_pos w128 (2 * c.args.unit) (omega (arith, short)) in
    let range = c.ranges.sum in
    let floor = simp (to_z-of_z, unit_is, twice_is) at c.floor_div.ensures.floor in
    let height = rounded_height sum c.args.unit c.floor_div.result short.0 floor within in
    let result_fits : FitsSigned w128 c.floor_div.result = omega (arith, ints, height.above, height.below) in
    simp to_z-of_z height
