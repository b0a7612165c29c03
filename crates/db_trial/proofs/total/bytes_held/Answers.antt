use Rattle.std.proofs.Common.{arith, ◌∙◌}
use Rattle.db_trial.proofs.Totals.{to_the_end}
use Rattle.db_trial.proofs.total.bytes_held.Goals as goal

pub returns-clause-total : goal.returns-clause-total
returns-clause-total g c = λ files is.
    to_the_end files c.deref-name-items.result.now c.loop-name.name-index c.loop-name.total (c.loop-name.invariant.total files is) (omega arith)
    (c.deref-name-items.ensures.value ∙ rw is at c.in_ok-names.ensures.names)
