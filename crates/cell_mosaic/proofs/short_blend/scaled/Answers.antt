use Rattle.std.proofs.Common.{arith, FitsSigned}
use Rattle.std.specs.Prelude.{◌*ℤ◌, ◌^◌, pos}
use Rattle.std.proofs.lemmas.Int.{ints, to_z-of_z, to_z_pos}
use mir.Syntax.{w64}
use Rattle.cell_mosaic.proofs.Sums.{scaled_within}
use Rattle.cell_mosaic.proofs.Shorts.{part_short}
use Rattle.cell_mosaic.proofs.short_blend.scaled.Goals as goal

pub returns-clause-within : goal.returns-clause-within
returns-clause-within c =
    let within = scaled_within c.args.metres c.args.weight c.requires.height in
    let range = c.ranges.metres in
    let product_fits : FitsSigned w64 (c.args.metres *ℤ pos c.args.weight) =
    omega (arith, ints, within.above, within.below, c.requires.weight) in
    let metres_fits : FitsSigned w64 c.args.metres =
    omega (arith, ints, c.requires.height.above, c.requires.height.below) in
    let weight_is = to_z_pos w64 c.args.weight (omega (arith, c.requires.weight)) in
    simp (to_z-of_z, weight_is) within

pub returns-clause-small : goal.returns-clause-small
returns-clause-small c =
    let within = scaled_within c.args.metres c.args.weight c.requires.height in
    let range = c.ranges.metres in
    let product_fits : FitsSigned w64 (c.args.metres *ℤ pos c.args.weight) =
    omega (arith, ints, within.above, within.below, c.requires.weight) in
    let metres_fits : FitsSigned w64 c.args.metres =
    omega (arith, ints, c.requires.height.above, c.requires.height.below) in
    let weight_is = to_z_pos w64 c.args.weight (omega (arith, c.requires.weight)) in
    simp (to_z-of_z, weight_is) (part_short c.args.weight (2 ^ 48) _ c.requires.weight within)
