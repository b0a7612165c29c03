use Rattle.terrain_base.proofs.Runs.{one_done, first_fails, goes_on, at_err}
use Rattle.db_files.proofs.tiles.drop_tile.Goals as goal

pub returns-in_err-delete-clause-ran : goal.returns-in_err-delete-clause-ran
returns-in_err-delete-clause-ran g c = at_err c.from_residual.result _ c.from_residual.ensures.1 (first_fails (rw c.terrain.ensures at c.in_err-delete.ensures.does))

pub returns-in_err-delete-2-clause-ran : goal.returns-in_err-delete-2-clause-ran
returns-in_err-delete-2-clause-ran g c =
    at_err c.from_residual-in_err-delete-2.result _ c.from_residual-in_err-delete-2.ensures.1
    (goes_on (one_done (rw c.terrain.ensures at c.in_ok-delete.ensures.does)) (first_fails (rw c.note.ensures at c.in_err-delete-2.ensures.does)))
