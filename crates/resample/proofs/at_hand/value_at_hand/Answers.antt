use Rattle.std.proofs.Common.{arith}
use Rattle.cell_mosaic.specs.Cells.{post_at}
use Rattle.cell_mosaic.proofs.Values.{told_value}
use Rattle.resample.proofs.Lines.{step_below, value_by_lines}
use Rattle.resample.proofs.at_hand.value_at_hand.Goals as goal

pub round_at_hand-requires-clause-sw : goal.round_at_hand-requires-clause-sw
round_at_hand-requires-clause-sw g c =
    let column = step_below _ _ _ _ c.args.east.now c.requires.place.positive c.requires.east in
    let row = step_below _ _ _ _ c.args.north.now c.requires.place.positive c.requires.north in
    record { held = c.requires.known; in_col = omega (arith, column); in_row = omega (arith, row) }

pub round_at_hand-requires-clause-se : goal.round_at_hand-requires-clause-se
round_at_hand-requires-clause-se g c off =
    let column = step_below _ _ _ _ c.args.east.now c.requires.place.positive c.requires.east in
    let row = step_below _ _ _ _ c.args.north.now c.requires.place.positive c.requires.north in
    record { held = c.requires.known; in_col = omega (arith, column); in_row = omega (arith, row) }

pub round_at_hand-requires-clause-nw : goal.round_at_hand-requires-clause-nw
round_at_hand-requires-clause-nw g c off =
    let column = step_below _ _ _ _ c.args.east.now c.requires.place.positive c.requires.east in
    let row = step_below _ _ _ _ c.args.north.now c.requires.place.positive c.requires.north in
    record { held = c.requires.known; in_col = omega (arith, column); in_row = omega (arith, row) }

pub round_at_hand-requires-clause-small : goal.round_at_hand-requires-clause-small
round_at_hand-requires-clause-small g c =
    let column = step_below _ _ _ _ c.args.east.now c.requires.place.positive c.requires.east in
    let row = step_below _ _ _ _ c.args.north.now c.requires.place.positive c.requires.north in (
      omega (arith, column, c.requires.east.line_is.few, c.requires.east.posts_are),
      omega (arith, row, c.requires.north.line_is.few, c.requires.north.posts_are),
    )

pub returns-clause-value : goal.returns-clause-value
returns-clause-value g c files told is =
    let key = c.args.key in
    told_value told (g.P.PostSource.shapes c.args.src.now) key c.args.place c.blend.result
    (g.met.P.PostSource.agree c.args.src.now files told is) c.requires.known
    (value_by_lines (post_at told key) key.square key.level c.args.place c.args.east.now c.args.north.now c.in_ok-quad.quad
    c.blend.result c.requires.place c.requires.east c.requires.north (c.in_ok-quad.ensures.value files told is)
    c.blend.ensures.value)
