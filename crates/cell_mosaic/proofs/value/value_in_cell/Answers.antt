use Rattle.std.proofs.Common.{◌-◌, ◌*◌}
use Rattle.cell_mosaic.specs.Cells.{post_at}
use Rattle.cell_mosaic.proofs.Values.{value_by, told_value}
use Rattle.cell_mosaic.proofs.value.value_in_cell.Goals as goal

pub returns-clause-value : goal.returns-clause-value
returns-clause-value g c told is =
    let col = c.step-col.ensures in
    let row = c.step-row.ensures in
    let key = c.args.key in
    told_value told (g.P.PostSource.shapes c.args.src.now) key c.args.place c.blend.result
    (g.met.P.PostSource.agree c.args.src.now (g.S.Store.holds c.args.store.now) told is)
    c.requires.known
    (value_by (post_at told key) key.square key.level c.args.place
    (c.east.result * (c.columns.result - 1)) (c.north.result * (c.rows.result - 1)) c.step-col.result.0 c.step-col.result.1 c.step-row.result.0 c.step-row.result.1
    c.in_ok-quad.quad c.blend.result
    (λ i. c.east.ensures.value i * (c.columns.ensures i - 1)) (λ i. c.north.ensures.value i * (c.rows.ensures i - 1))
    col.post col.beyond row.post row.beyond (c.in_ok-quad.ensures.value told is) c.blend.ensures.value)
