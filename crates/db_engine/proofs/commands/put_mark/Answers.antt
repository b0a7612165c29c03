use Rattle.std.proofs.Common.{refl, ◌∙◌}
use Rattle.terrain_base.proofs.Runs.{not_yet, first_fails, as_step, write_is, at_err}
use Rattle.db_engine.proofs.commands.put_mark.Goals as goal

pub returns-in_err-text-clause-ran : goal.returns-in_err-text-clause-ran
returns-in_err-text-clause-ran g c = at_err c.from_residual.result _ c.from_residual.ensures.1 (not_yet refl refl)

pub returns-in_err-put-clause-ran : goal.returns-in_err-put-clause-ran
returns-in_err-put-clause-ran g c =
    at_err c.from_residual-in_err-put.result _ c.from_residual-in_err-put.ensures.1
    (first_fails (as_step (write_is c.manifest.ensures (c.deref.ensures.value ∙ c.in_ok-text.ensures)) c.in_err-put.ensures.does))
