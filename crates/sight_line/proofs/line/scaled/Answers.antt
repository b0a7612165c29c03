-- A product that fits.
use Rattle.std.proofs.Common.{arith, FitsSigned, ◌^◌}
use Rattle.std.specs.Prelude.{◌*ℤ◌}
use Rattle.std.specs.Int.{w128}
use Rattle.std.proofs.lemmas.Int.{to_z-of_z}
use Rattle.common_laws.proofs.Sizes.{size_product}
use Rattle.sight_line.proofs.Sizes.{fits}
use Rattle.sight_line.proofs.line.scaled.Goals as goal

pub returns : goal.returns
returns c =
    let x = c.args.over in let y = c.args.under in
    let fits_over : FitsSigned w128 x = c.ranges.over in
    let fits_under : FitsSigned w128 y = c.ranges.under in
    let product : FitsSigned w128 (x *ℤ y) =
    fits (x *ℤ y) (omega (arith, size_product x y (2 ^ 50) 2147352578 c.requires.over c.requires.under)) in
    simp to_z-of_z
