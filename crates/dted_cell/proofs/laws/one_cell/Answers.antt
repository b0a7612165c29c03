use Rattle.dted_cell.proofs.WholeCells.{cell_by, by_cell}
use Rattle.dted_cell.proofs.laws.one_cell.Goals as goal

pub returns-clause-accepted : goal.returns-clause-accepted
returns-clause-accepted c = cell_by

pub returns-clause-unrefused : goal.returns-clause-unrefused
returns-clause-unrefused c bytes (square, level, posts, cell) = (by_cell bytes square level posts cell).accepted

pub returns-clause-only : goal.returns-clause-only
returns-clause-only c bytes square level posts cell =
    let found = by_cell bytes square level posts cell in
    (found.square_is, found.level_is, found.posts_are)
