use Rattle.std.proofs.Common.{sym, ap, subst, ◌∙◌}
use Rattle.database.specs.Cells.{AreRows, has_row}
use Rattle.db_engine.proofs.RowLists.{without_row_are_rows, without_row_gone}
use Rattle.db_engine.proofs.rows.without_row.Goals as goal

pub returns-clause-rows : goal.returns-clause-rows
returns-clause-rows c = subst AreRows (sym c.in_ok-list.ensures) (without_row_are_rows c.args.rows.now c.args.key c.requires)

pub returns-clause-gone : goal.returns-clause-gone
returns-clause-gone c = ap (λ rows. has_row rows c.args.key) c.in_ok-list.ensures ∙ without_row_gone c.args.rows.now c.args.key
