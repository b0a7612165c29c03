use Rattle.std.proofs.Common.{◌∙◌}
use Rattle.terrain_top.proofs.Coming.{memory_only, memory_says}
use Rattle.terrain_top.proofs.Trials.{trial_comes, trial_stops, trial_told}
use Rattle.terrain_top.proofs.trial.answer_to_trial.Goals as goal

pub returns-in_err-line-in-Ok-clause-comes : goal.returns-in_err-line-in-Ok-clause-comes
returns-in_err-line-in-Ok-clause-comes c = λ held log taken course is.
    trial_comes c.args.count c.args.number c.in-Ok.report course held log taken _ _ c.from_residual.result c.in-Ok.ensures.trial c.in-Ok.ensures.few
    (memory_says _ c.from_residual.result c.from_residual.ensures.1) (memory_only c.from_residual.result c.from_residual.ensures.1) is

pub returns-in_ok-line-in-Ok-clause-comes : goal.returns-in_ok-line-in-Ok-clause-comes
returns-in_ok-line-in-Ok-clause-comes c = λ held log taken course is.
    trial_comes c.args.count c.args.number c.in-Ok.report course held log taken _ _ c.done.result c.in-Ok.ensures.trial c.in-Ok.ensures.few
    (rw (c.deref.ensures ∙ c.in_ok-line-in-Ok.ensures) at c.done.ensures.says) c.done.ensures.memory is

pub returns-in_ok-line-in-Ok-clause-told : goal.returns-in_ok-line-in-Ok-clause-told
returns-in_ok-line-in-Ok-clause-told c = trial_told c.args.count c.args.number c.in-Ok.report c.in-Ok.ensures.trial c.done.result

pub returns-in-Err-clause-comes : goal.returns-in-Err-clause-comes
returns-in-Err-clause-comes c = λ held log taken course is. trial_stops c.args.count c.args.number course held log taken _ _ is
