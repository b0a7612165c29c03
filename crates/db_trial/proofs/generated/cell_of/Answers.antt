use Rattle.dted_cell.proofs.WholeCells.{by_cell}
use Rattle.db_trial.proofs.Cells.{checked_key, never_err}
use Rattle.db_trial.proofs.generated.cell_of.Goals as goal

pub returns-clause-key : goal.returns-clause-key
returns-clause-key c =
    checked_key c.args.drawn c.checked.result _ c.key_of-key.result _ c.checked.ensures.ok c.in_ok-generate.ensures.cell c.key_of-key.ensures

pub returns-clause-only : goal.returns-clause-only
returns-clause-only c = never_err c.checked.result (c.checked.ensures.fine (by_cell _ _ _ _ c.in_ok-generate.ensures.cell).accepted)
