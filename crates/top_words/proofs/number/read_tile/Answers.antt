use Rattle.std.proofs.Common.{◌≡◌, arith}
use Rattle.top_words.proofs.Same.{column_within, row_within}
use Rattle.top_words.proofs.number.read_tile.Goals as goal

pub returns-clause-all : goal.returns-clause-all
returns-clause-all c = λ wanted is.
    let small_column = column_within wanted in
    let small_row = row_within wanted in
    let levels = c.in_ok-z.ensures.all wanted.z (omega (arith, wanted.z_in_range)) is.level in
    let columns = c.in_ok-x.ensures.all wanted.x (omega (arith, small_column)) is.column in
    let rows = c.in_ok-y.ensures.all wanted.y (omega (arith, small_row)) is.row in
    let same_z : c.in_ok-z.z ≡ wanted.z = cc in
    let same_x : c.in_ok-x.x ≡ wanted.x = cc in
    let same_y : c.in_ok-y.y ≡ wanted.y = cc in
    c.tile_of.ensures.all wanted same_z same_x same_y
