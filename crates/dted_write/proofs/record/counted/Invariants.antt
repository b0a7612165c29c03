use Rattle.std.proofs.Common.{◌≡◌, ◌-◌, ◌++◌, map}
use Rattle.std.specs.List.{flat_map, range_with_len}
use Rattle.terrain_base.specs.Level.{rows_of}
use Rattle.dted_write.specs.Record.{bytes_of_post, counted_posts}
use Rattle.dted_write.specs.Cell.{column_of}
use Rattle.dted_write.proofs.record.counted.Given as goal

abbrev pub invariant-loop-row : goal.invariant-loop-row
invariant-loop-row g l =
    let table = g.P.PostTable in
    let post = table.posts_of l.posts in
    let rows = rows_of (table.level_of l.posts) in
    l.record.items ++ flat_map bytes_of_post (map (post l.col) (range_with_len l.row (rows - l.row)))
    ≡ counted_posts l.col (column_of post rows l.col)
