use Rattle.std.proofs.Common.{arith, FitsSigned}
use Rattle.std.specs.Prelude.{◌*ℤ◌, pos}
use Rattle.std.specs.Int.{w128}
use Rattle.std.proofs.lemmas.Int.{ints, to_z-of_z, to_z_pos}
use Rattle.cell_mosaic.proofs.Sums.{scaled_within, scaled_small}
use Rattle.cell_mosaic.proofs.blending.scaled.Goals as goal

pub returns-clause-within : goal.returns-clause-within
returns-clause-within c =
    let within = scaled_within c.args.metres c.args.weight c.requires.height in
    let range = c.ranges.metres in
    let product_fits : FitsSigned w128 (c.args.metres *ℤ pos c.args.weight) = omega (arith, ints, within.above, within.below, c.requires.weight) in
    let metres_fit : FitsSigned w128 c.args.metres = omega (arith, ints, c.requires.height.above, c.requires.height.below) in
    let weight_is = to_z_pos w128 c.args.weight (omega (arith, c.requires.weight)) in
    simp (to_z-of_z, weight_is) within

pub returns-clause-small : goal.returns-clause-small
returns-clause-small c =
    let within = scaled_within c.args.metres c.args.weight c.requires.height in
    let range = c.ranges.metres in
    let product_fits : FitsSigned w128 (c.args.metres *ℤ pos c.args.weight) = omega (arith, ints, within.above, within.below, c.requires.weight) in
    let metres_fit : FitsSigned w128 c.args.metres = omega (arith, ints, c.requires.height.above, c.requires.height.below) in
    let weight_is = to_z_pos w128 c.args.weight (omega (arith, c.requires.weight)) in
    simp (to_z-of_z, weight_is) (scaled_small c.args.weight _ c.requires.weight within)
