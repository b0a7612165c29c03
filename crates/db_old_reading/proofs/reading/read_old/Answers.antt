use Rattle.std.proofs.Common.{refl, ◌∙◌}
use Rattle.common_laws.proofs.Options.{if_err_is}
use Rattle.db_old_reading.proofs.OldFound.{are_read_as, are_rows, found_of, rows_trouble_as, told_of, stop_of, told_none, stop_none, only_of}
use Rattle.db_old_reading.proofs.reading.read_old.Goals as goal

pub returns-in_err-dated-clause-refused : goal.returns-in_err-dated-clause-refused
returns-in_err-dated-clause-refused g c =
    if_err_is c.from_residual.result _ _ c.from_residual.ensures.1 (λ files is. told_none files _ (c.in_err-dated.ensures.refused files is))

pub returns-in_err-dated-clause-sure : goal.returns-in_err-dated-clause-sure
returns-in_err-dated-clause-sure g c =
    if_err_is c.from_residual.result _ _ c.from_residual.ensures.1 (λ files v s mark is reads. stop_none files _ v s mark (c.in_err-dated.ensures.refused files is) reads)

pub returns-in_err-rows-clause-refused : goal.returns-in_err-rows-clause-refused
returns-in_err-rows-clause-refused g c =
    if_err_is c.from_residual-in_err-rows.result _ _ c.from_residual-in_err-rows.ensures.1 (λ files is.
    told_of files _ _ _ c.in_ok-dated.ensures.old (c.in_ok-dated.ensures.ok files is)
    (rows_trouble_as files _ _ _ _ _ c.staged-staged.ensures c.rows.ensures (c.in_err-rows.ensures.first files (c.in_ok-dated.ensures.same ∙ is))))

pub returns-in_err-rows-clause-sure : goal.returns-in_err-rows-clause-sure
returns-in_err-rows-clause-sure g c =
    if_err_is c.from_residual-in_err-rows.result _ _ c.from_residual-in_err-rows.ensures.1 (λ files v s mark is reads.
    stop_of files _ v _ _ s mark (c.in_ok-dated.ensures.ok files is)
    (rows_trouble_as files _ _ _ _ _ c.staged-staged.ensures c.rows.ensures (c.in_err-rows.ensures.first files (c.in_ok-dated.ensures.same ∙ is))) reads)

pub returns-clause-found : goal.returns-clause-found
returns-clause-found g c = λ files is.
    found_of files _ _ _ _ c.in_ok-dated.ensures.old (c.in_ok-dated.ensures.ok files is)
    (are_read_as files _ _ _ _ c.staged-staged.ensures (c.in_ok-rows.ensures.read files (c.in_ok-dated.ensures.same ∙ is)))
    (c.in_ok-rows.ensures.rows ∙ c.rows.ensures) refl c.params.ensures c.staged-staged.ensures refl

pub returns-clause-only : goal.returns-clause-only
returns-clause-only g c = λ files v s mark is reads.
    only_of files v s mark _
    (found_of files _ _ _ _ c.in_ok-dated.ensures.old (c.in_ok-dated.ensures.ok files is)
    (are_read_as files _ _ _ _ c.staged-staged.ensures (c.in_ok-rows.ensures.read files (c.in_ok-dated.ensures.same ∙ is)))
    (c.in_ok-rows.ensures.rows ∙ c.rows.ensures) refl c.params.ensures c.staged-staged.ensures refl) reads

pub returns-clause-rows : goal.returns-clause-rows
returns-clause-rows g c = are_rows c.in_ok-rows.rows.items c.in_ok-dated.ensures.good (c.in_ok-rows.ensures.rows ∙ c.rows.ensures)
