use Rattle.std.proofs.Common.{refl, ◌∙◌}
use Rattle.std.specs.FinMap.{keys}
use Rattle.terrain_top.proofs.Coming.{memory_only, memory_says}
use Rattle.terrain_top.proofs.Whole.{begun, not_begun}
use Rattle.terrain_top.proofs.change.answer_to_init.Goals as goal

pub returns-in_err-line-in-Ok-clause-goes : goal.returns-in_err-line-in-Ok-clause-goes
returns-in_err-line-in-Ok-clause-goes g c = λ files is.
    let none = c.in-Ok.ensures.empty files is in
    begun c.args.params files _ _ _ _ _ _ (keys files) c.from_residual.result none (c.in-Ok.ensures.ran files is none).ok (c.in-Ok.ensures.few files is none)
    (memory_says _ c.from_residual.result c.from_residual.ensures.1) (memory_only c.from_residual.result c.from_residual.ensures.1)

pub returns-in_ok-line-in-Ok-clause-goes : goal.returns-in_ok-line-in-Ok-clause-goes
returns-in_ok-line-in-Ok-clause-goes g c = λ files is.
    let none = c.in-Ok.ensures.empty files is in
    begun c.args.params files _ _ _ _ _ _ (keys files) c.done.result none (c.in-Ok.ensures.ran files is none).ok (c.in-Ok.ensures.few files is none)
    (rw (c.deref.ensures ∙ c.in_ok-line-in-Ok.ensures) at c.done.ensures.says) c.done.ensures.memory

pub returns-in-Err-clause-goes : goal.returns-in-Err-clause-goes
returns-in-Err-clause-goes g c = λ files is.
    not_begun c.args.params files _ _ _ _ _ _ c.in-Err.answer (keys files) c.answer_of.result is refl (λ none. (c.in-Err.ensures.ran files is none).err) (c.in-Err.ensures.full files is) (c.in-Err.ensures.refused files is)
    c.answer_of.ensures.says c.answer_of.ensures.stops
