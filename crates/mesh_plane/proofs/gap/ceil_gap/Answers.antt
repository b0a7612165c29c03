-- The quotient of natural numbers is the whole part.
use Rattle.std.proofs.Common.{arith, FitsSigned}
use Rattle.std.specs.Prelude.{pos, ◌-ℤ◌, int_div}
use Rattle.std.specs.Int.{w128}
use Rattle.std.proofs.lemmas.Int.{ints, to_z-of_z, quot_fits}
use Rattle.mesh_plane.proofs.Sizes.{ceiling_above}
use Rattle.mesh_plane.proofs.gap.ceil_gap.Goals as goal

pub returns : goal.returns
returns c =
    let over = c.args.gap.now.over in let under = c.args.gap.now.under in
    let over_fits : FitsSigned w128 over = omega (arith, ints, c.fits-gap) in
    let under_fits : FitsSigned w128 under = omega (arith, ints, c.fits-gap) in
    let one_below_over_fits : FitsSigned w128 (over -ℤ pos 1) = omega (arith, ints, c.fits-gap, c.if-gap-le0.false) in
    let quotient_fits : FitsSigned w128 (int_div (over -ℤ pos 1) under) =
    quot_fits w128 (over -ℤ pos 1) under one_below_over_fits c.requires.above_zero in
    simp to_z-of_z (ceiling_above over under c.requires.above_zero (omega (arith, ints, c.if-gap-le0.false)))
