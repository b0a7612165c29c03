use Rattle.std.proofs.Common.{ap, ◌∙◌}
use Rattle.db_report.specs.Done.{rebuilt_line_of}
use Rattle.terrain_top.proofs.Coming.{memory_at, memory_only, memory_says}
use Rattle.terrain_top.proofs.Whole.{anew, not_anew}
use Rattle.terrain_top.proofs.change.answer_to_rebuild.Goals as goal

pub returns-in_err-tiles-in-Ok-clause-goes : goal.returns-in_err-tiles-in-Ok-clause-goes
returns-in_err-tiles-in-Ok-clause-goes g c = λ s files h is.
    let err = memory_at c.in_err-tiles-in-Ok.field-0.0 c.from_residual.result c.from_residual.ensures.1 c.in_err-tiles-in-Ok.ensures.memory in
    anew s files _ _ _ _ _ c.rebuild.new.opened _ _ is h c.from_residual.result (c.in-Ok.ensures.ran s h).ok c.in-Ok.ensures.ok (c.in-Ok.ensures.few s h)
    (memory_says _ c.from_residual.result err) (memory_only c.from_residual.result err)

pub returns-in_err-line-in-Ok-clause-goes : goal.returns-in_err-line-in-Ok-clause-goes
returns-in_err-line-in-Ok-clause-goes g c = λ s files h is.
    anew s files _ _ _ _ _ c.rebuild.new.opened _ _ is h c.from_residual-in_err-line-in-Ok.result (c.in-Ok.ensures.ran s h).ok c.in-Ok.ensures.ok (c.in-Ok.ensures.few s h)
    (memory_says _ c.from_residual-in_err-line-in-Ok.result c.from_residual-in_err-line-in-Ok.ensures.1) (memory_only c.from_residual-in_err-line-in-Ok.result c.from_residual-in_err-line-in-Ok.ensures.1)

pub returns-in_ok-line-in-Ok-clause-goes : goal.returns-in_ok-line-in-Ok-clause-goes
returns-in_ok-line-in-Ok-clause-goes g c = λ s files h is.
    anew s files _ _ _ _ _ c.rebuild.new.opened _ _ is h c.done.result (c.in-Ok.ensures.ran s h).ok c.in-Ok.ensures.ok (c.in-Ok.ensures.few s h)
    (rw (c.deref.ensures ∙ c.in_ok-line-in-Ok.ensures ∙ ap rebuilt_line_of c.in_ok-tiles-in-Ok.ensures.count) at c.done.ensures.says) c.done.ensures.memory

pub returns-in-Err-clause-goes : goal.returns-in-Err-clause-goes
returns-in-Err-clause-goes g c = λ s files h is.
    not_anew s files _ _ _ _ _ c.rebuild.new.opened _ _ is h c.in-Err.answer c.answer_of.result (c.in-Err.ensures.ran s h).err (c.in-Err.ensures.stop s h) c.answer_of.ensures.says c.answer_of.ensures.stops
