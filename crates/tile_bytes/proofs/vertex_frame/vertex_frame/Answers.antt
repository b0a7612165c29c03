use Rattle.std.proofs.Common.{rules, arith, FitsSigned, w16}
use Rattle.std.proofs.lemmas.Int.{ints, to_z-of_z}
use Rattle.tile_bytes.proofs.Frames.{have_ends}
use Rattle.tile_bytes.proofs.vertex_frame.vertex_frame.Goals as goal

pub frame-requires-clause-order : goal.frame-requires-clause-order
frame-requires-clause-order c =
    let least : FitsSigned w16 c.lowest.result = search rules in
    let most : FitsSigned w16 c.highest.result = search rules in
    let ends = have_ends c.args.points.now c.requires.some c.requires.heights in
    simp to_z-of_z (omega (arith, ints, c.lowest.ensures, c.highest.ensures, ends.order))

pub frame-requires-clause-low : goal.frame-requires-clause-low
frame-requires-clause-low c =
    let least : FitsSigned w16 c.lowest.result = search rules in
    let ends = have_ends c.args.points.now c.requires.some c.requires.heights in
    simp to_z-of_z (omega (arith, ints, c.lowest.ensures, ends.low.above))

pub frame-requires-clause-high : goal.frame-requires-clause-high
frame-requires-clause-high c =
    let most : FitsSigned w16 c.highest.result = search rules in
    let ends = have_ends c.args.points.now c.requires.some c.requires.heights in
    simp to_z-of_z (omega (arith, ints, c.highest.ensures, ends.high.below))
