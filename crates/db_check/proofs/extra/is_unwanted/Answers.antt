use Rattle.std.proofs.Common.{not, is_some, sym, ap, ◌∙◌}
use Rattle.database.specs.Cells.{has_row}
use Rattle.database.specs.State.{file_of}
use Rattle.db_files.proofs.RowKeys.{row_there}
use Rattle.db_check.proofs.extra.is_unwanted.Goals as goal

pub returns-in-Cell : goal.returns-in-Cell
returns-in-Cell c = λ s params_is rows_is.
    ap not (c.has_row.ensures ∙ ap (λ rows. has_row rows c.in-Cell.key) rows_is ∙ row_there s.cells c.in-Cell.key)
    ∙ ap (λ name. not (is_some (file_of s name))) (sym c.in-Cell.is ∙ c.key.ensures)
