use Rattle.terrain_top.proofs.Checks.{checked, not_checked}
use Rattle.terrain_top.proofs.check.answer_to_check.Goals as goal

pub returns-in-Ok-clause-goes : goal.returns-in-Ok-clause-goes
returns-in-Ok-clause-goes g c = λ s files course h is of.
    checked s files course _ _ _ _ c.args.opened.now _ _ is h of c.in-Ok.ensures.same c.in-Ok.ensures.quiet c.in-Ok.verdict c.tell.result
    (c.in-Ok.ensures.verdict s h) c.in-Ok.ensures.few c.tell.ensures.says c.tell.ensures.memory

pub returns-in-Err-clause-goes : goal.returns-in-Err-clause-goes
returns-in-Err-clause-goes g c = λ s files course h is of.
    not_checked s files course _ _ _ _ c.args.opened.now _ _ is h of c.in-Err.ensures.same c.in-Err.ensures.quiet c.in-Err.answer c.answer_of.result
    (c.in-Err.ensures.stop s h) c.answer_of.ensures.says c.answer_of.ensures.stops
