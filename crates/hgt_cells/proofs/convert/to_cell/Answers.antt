use Rattle.std.proofs.Common.{sym, subst}
use Rattle.dted_cell.specs.Cell.{IsCell}
use Rattle.dted_write.specs.Cell.{columns_from}
use Rattle.hgt_cells.specs.File.{level_in}
use Rattle.hgt_cells.specs.Cell.{hgt_post, hgt_cell_text}
use Rattle.hgt_cells.proofs.Posts.{hgt_is_cell}
use Rattle.hgt_cells.proofs.convert.to_cell.Goals as goal

pub returns-clause-text : goal.returns-clause-text
unfolding hgt_cell_text
returns-clause-text c = c.in_ok-text.ensures

pub returns-clause-cell : goal.returns-clause-cell
returns-clause-cell c =
    let view = c.args.view.now in
    let level = level_in view.bytes.now in
    subst (λ text. IsCell text view.square level (columns_from view.square level (hgt_post view.square view.bytes.now)))
    (sym c.in_ok-text.ensures) (hgt_is_cell view.square view.bytes.now view.file)
