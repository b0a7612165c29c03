use Rattle.terrain_base.proofs.Runs.{one_done, first_fails, goes_on, at_err}
use Rattle.db_files.proofs.tiles.put_made.Goals as goal

pub returns-in_err-put-clause-ran : goal.returns-in_err-put-clause-ran
returns-in_err-put-clause-ran g c = at_err c.from_residual.result _ c.from_residual.ensures.1 (first_fails (rw (c.terrain.ensures, c.deref.ensures.value) at c.in_err-put.ensures.does))

pub returns-in_err-put-2-clause-ran : goal.returns-in_err-put-2-clause-ran
returns-in_err-put-2-clause-ran g c =
    at_err c.from_residual-in_err-put-2.result _ c.from_residual-in_err-put-2.ensures.1
    (goes_on (one_done (rw (c.terrain.ensures, c.deref.ensures.value) at c.in_ok-put.ensures.does)) (first_fails (rw (c.note.ensures, c.deref-2.ensures.value) at c.in_err-put-2.ensures.does)))
