use Rattle.std.proofs.Common.{◌≡◌, ◌-◌, ◌++◌}
use Rattle.std.specs.List.{flat_map, range_with_len}
use Rattle.terrain_base.specs.Level.{rows_of, columns_of}
use Rattle.dted_write.specs.Cell.{cell_text, record_from}
use Rattle.dted_write.proofs.cell.write_cell.Given as goal

abbrev pub invariant-loop-col : goal.invariant-loop-col
invariant-loop-col g l =
    let table = g.P.PostTable in
    let post = table.posts_of l.posts in
    let square = table.square_of l.posts in
    let level = table.level_of l.posts in
    l.text.items ++ flat_map (record_from post (rows_of level)) (range_with_len l.col (columns_of square level - l.col))
    ≡ cell_text square level post
