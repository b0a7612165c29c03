use Rattle.std.proofs.Common.{◌≡◌, not, sym, ap, ◌∙◌}
use Rattle.terrain_base.specs.declared.name.Key.TheVariants.{Cell}
use Rattle.database.specs.Cells.{has_row}
use Rattle.db_files.proofs.RowKeys.{cell_extra}
use Rattle.db_files.proofs.rebuilding.is_extra.Goals as goal

pub returns-in-Cell-clause-extra : goal.returns-in-Cell-clause-extra
returns-in-Cell-clause-extra c = λ s params_is rows_is. ap not c.finds_row.ensures ∙ cell_extra s c.in-Cell.key c.args.name.now rows_is (sym c.in-Cell.is ∙ c.key.ensures)

pub returns-in-Cell-clause-kept : goal.returns-in-Cell-clause-kept
returns-in-Cell-clause-kept c = λ key name has.
    let named : Cell c.in-Cell.key ≡ Cell key = sym c.in-Cell.is ∙ c.key.ensures ∙ name in
    let same : c.in-Cell.key ≡ key = cc in
    ap not (c.finds_row.ensures ∙ ap (has_row c.args.rows.now) same ∙ has)
