use Rattle.std.proofs.Common.{◌^◌, arith, refl, rules, FitsSigned}
use Rattle.std.proofs.lemmas.Int.{ints, to_z-of_z}
use Rattle.std.specs.Prelude.{pos, ◌*ℤ◌}
use mir.Syntax.{w128}
use Rattle.whole_interval.proofs.Enclosures.{same_ends}
use Rattle.ecef_boxes.specs.Box.{whole_of}
use Rattle.ecef_boxes.proofs.ellipsoid.exactly.Goals as goal

pub returns : goal.returns
unfolding whole_of
returns c =
    let n : FitsSigned w128 c.args.n = search rules in
    let end : FitsSigned w128 (c.args.n *ℤ pos (2 ^ 48)) = omega (arith, ints, c.requires) in
    simp to_z-of_z (same_ends (c.args.n *ℤ pos (2 ^ 48)) (c.args.n *ℤ pos (2 ^ 48)) (whole_of c.args.n) refl refl)
