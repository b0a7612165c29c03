use Rattle.std.proofs.Common.{arith, FitsSigned, w64}
use Rattle.std.proofs.lemmas.Int.{ints, to_z-of_z}
use Rattle.quad_split.proofs.Areas.{area_small}
use Rattle.quad_split.proofs.triangle.area.Goals as goal

pub returns-clause-size : goal.returns-clause-size
returns-clause-size c =
    let small = area_small c.args.tri.now c.requires in
    let fits : FitsSigned w64 c.doubled.result = omega (arith, ints, small, c.doubled.ensures.value) in
    simp to_z-of_z (omega (arith, ints, small, c.doubled.ensures.value))
