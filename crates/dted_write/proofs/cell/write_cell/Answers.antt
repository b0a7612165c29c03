use Rattle.std.proofs.Common.{◌≡◌, ◌+◌, ◌-◌, ◌<◌, ◌++◌, ap, ◌∙◌, arith}
use Rattle.std.specs.List.{flat_map, range_with_len}
use Rattle.terrain_base.specs.Level.{rows_of, columns_of}
use Rattle.dted_write.specs.Cell.{record_from}
use Rattle.dted_write.proofs.Records.{flat_next}
use Rattle.dted_write.proofs.cell.write_cell.Goals as goal

pub loop-col-preserved : goal.loop-col-preserved
loop-col-preserved g c =
    let table = g.P.PostTable in
    let posts = c.args.posts.now in
    let f = record_from (table.posts_of posts) (rows_of (table.level_of posts)) in
    let col = c.loop-col.col in
    let columns = columns_of (table.square_of posts) (table.level_of posts) in
    let count : c.columns-col-end.result ≡ columns =
    c.columns-col-end.ensures ∙ ap (λ s. columns_of s c.level-level.result) c.square-square.ensures
    ∙ ap (columns_of (table.square_of posts)) c.level-level.ensures in
    let below : col < columns = omega (arith, c.loop-col-test.true, count) in
    let items : c.extend_from_slice.new.self.items ≡ c.loop-col.text.items ++ f col =
    c.in_ok-extend_from_slice.ensures.items ∙ ap (λ part. c.loop-col.text.items ++ part) (c.deref.ensures.value ∙ c.in_ok-record.ensures) in
    ap (λ text. text ++ flat_map f (range_with_len (col + 1) (columns - (col + 1)))) items ∙ flat_next f c.loop-col.text.items col columns below ∙ c.loop-col.invariant
