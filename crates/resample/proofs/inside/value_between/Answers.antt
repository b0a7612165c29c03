use Rattle.std.proofs.Common.{arith}
use Rattle.cell_mosaic.specs.Cells.{post_at}
use Rattle.cell_mosaic.proofs.Values.{told_value}
use Rattle.resample.proofs.Lines.{step_below, value_by_lines}
use Rattle.resample.proofs.inside.value_between.Goals as goal

pub posts_round-requires-clause-sw : goal.posts_round-requires-clause-sw
posts_round-requires-clause-sw g c =
    let e = step_below _ _ _ _ c.args.east.now c.requires.place.positive c.requires.east in
    let n = step_below _ _ _ _ c.args.north.now c.requires.place.positive c.requires.north in
    record { held = c.requires.known; in_col = omega (arith, e); in_row = omega (arith, n) }

pub posts_round-requires-clause-se : goal.posts_round-requires-clause-se
posts_round-requires-clause-se g c off =
    let e = step_below _ _ _ _ c.args.east.now c.requires.place.positive c.requires.east in
    let n = step_below _ _ _ _ c.args.north.now c.requires.place.positive c.requires.north in
    record { held = c.requires.known; in_col = omega (arith, e); in_row = omega (arith, n) }

pub posts_round-requires-clause-nw : goal.posts_round-requires-clause-nw
posts_round-requires-clause-nw g c off =
    let e = step_below _ _ _ _ c.args.east.now c.requires.place.positive c.requires.east in
    let n = step_below _ _ _ _ c.args.north.now c.requires.place.positive c.requires.north in
    record { held = c.requires.known; in_col = omega (arith, e); in_row = omega (arith, n) }

pub posts_round-requires-clause-small : goal.posts_round-requires-clause-small
posts_round-requires-clause-small g c =
    let e = step_below _ _ _ _ c.args.east.now c.requires.place.positive c.requires.east in
    let n = step_below _ _ _ _ c.args.north.now c.requires.place.positive c.requires.north in
    (omega (arith, e, c.requires.east.line_is.few, c.requires.east.posts_are), omega (arith, n, c.requires.north.line_is.few, c.requires.north.posts_are))

pub returns-clause-value : goal.returns-clause-value
returns-clause-value g c told is =
    let key = c.args.key in
    told_value told (g.P.PostSource.shapes c.args.src.now) key c.args.place c.blend.result
    (g.met.P.PostSource.agree c.args.src.now (g.S.Store.holds c.args.store.now) told is) c.requires.known
    (value_by_lines (post_at told key) key.square key.level c.args.place c.args.east.now c.args.north.now c.in_ok-quad.quad c.blend.result c.requires.place c.requires.east c.requires.north
    (c.in_ok-quad.ensures.value told is) c.blend.ensures.value)
