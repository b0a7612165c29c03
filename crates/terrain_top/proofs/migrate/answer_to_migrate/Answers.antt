use Rattle.std.proofs.Common.{◌∙◌, length}
use Rattle.db_report.specs.Done.{migrated_line_of}
use Rattle.terrain_top.proofs.Coming.{memory_at, memory_only, memory_says}
use Rattle.terrain_top.proofs.Migrations.{brought, brought_has, not_brought, not_brought_has}
use Rattle.terrain_top.proofs.Scripts.{on_ok}
use Rattle.terrain_top.proofs.migrate.answer_to_migrate.Goals as goal

pub returns-in_err-tiles-in-Ok-clause-goes : goal.returns-in_err-tiles-in-Ok-clause-goes
returns-in_err-tiles-in-Ok-clause-goes g c = λ files course is of.
    let err = memory_at c.in_err-tiles-in-Ok.field-0.0 c.from_residual.result c.from_residual.ensures.1 c.in_err-tiles-in-Ok.ensures.memory in
    brought files _ _ _ _ c.in-Ok.opened _ _ (c.in-Ok.ensures.opened files is) (λ v s mark reads. (c.in-Ok.ensures.ran files v s mark is reads).ok)
    (λ v s mark reads. c.in-Ok.ensures.few files v s mark is reads) course c.from_residual.result of
    (memory_says _ c.from_residual.result err) (memory_only c.from_residual.result err)

pub returns-in_err-line-in-Ok-clause-goes : goal.returns-in_err-line-in-Ok-clause-goes
returns-in_err-line-in-Ok-clause-goes g c = λ files course is of.
    brought files _ _ _ _ c.in-Ok.opened _ _ (c.in-Ok.ensures.opened files is) (λ v s mark reads. (c.in-Ok.ensures.ran files v s mark is reads).ok)
    (λ v s mark reads. c.in-Ok.ensures.few files v s mark is reads) course c.from_residual-in_err-line-in-Ok.result of
    (memory_says _ c.from_residual-in_err-line-in-Ok.result c.from_residual-in_err-line-in-Ok.ensures.1) (memory_only c.from_residual-in_err-line-in-Ok.result c.from_residual-in_err-line-in-Ok.ensures.1)

pub returns-in_ok-line-in-Ok-clause-goes : goal.returns-in_ok-line-in-Ok-clause-goes
returns-in_ok-line-in-Ok-clause-goes g c = λ files course is of.
    brought files _ _ _ _ c.in-Ok.opened _ _ (c.in-Ok.ensures.opened files is) (λ v s mark reads. (c.in-Ok.ensures.ran files v s mark is reads).ok)
    (λ v s mark reads. c.in-Ok.ensures.few files v s mark is reads) course c.done.result of
    (rw (c.deref.ensures ∙ c.in_ok-line-in-Ok.ensures ∙ (λ i. migrated_line_of (length (c.summaries.ensures.value i)) (c.in_ok-tiles-in-Ok.ensures.count i))) at c.done.ensures.says) c.done.ensures.memory

pub returns-in_ok-line-in-Ok-clause-has : goal.returns-in_ok-line-in-Ok-clause-has
returns-in_ok-line-in-Ok-clause-has g c = λ files is.
    on_ok c.done.result (brought_has files _ _ _ _ c.in-Ok.opened _ _ (c.in-Ok.ensures.opened files is) (λ v s mark reads. (c.in-Ok.ensures.ran files v s mark is reads).ok)
    (λ v s mark reads. c.in-Ok.ensures.few files v s mark is reads))

pub returns-in-Err-clause-goes : goal.returns-in-Err-clause-goes
returns-in-Err-clause-goes g c = λ files course is of.
    not_brought files _ _ _ _ _ _ is c.in-Err.answer (c.in-Err.ensures.refused files is) course c.answer_of.result of
    (c.in-Err.ensures.left files of.opening is of.opens) (λ v s mark reads. c.in-Err.ensures.stop files v s mark is reads)
    (λ v s mark reads. (c.in-Err.ensures.ran files v s mark is reads).err) c.answer_of.ensures.says c.answer_of.ensures.stops

pub returns-in-Err-clause-has : goal.returns-in-Err-clause-has
returns-in-Err-clause-has g c = λ files is.
    not_brought_has files _ _ _ _ _ _ is c.in-Err.answer (c.in-Err.ensures.refused files is) c.answer_of.result c.answer_of.ensures.says
