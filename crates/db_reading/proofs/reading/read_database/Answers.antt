use Rattle.std.proofs.Common.{◌∙◌}
use Rattle.common_laws.proofs.Options.{if_err_is}
use Rattle.db_reading.proofs.RowReads.{found_of, told_of, stop_of, told_none, stop_none, rows_trouble_as, are_read_as}
use Rattle.db_reading.proofs.reading.read_database.Goals as goal

pub returns-in_err-manifest-clause-refused : goal.returns-in_err-manifest-clause-refused
returns-in_err-manifest-clause-refused g c =
    if_err_is c.from_residual.result _ _ c.from_residual.ensures.1 (λ files is. told_none files _ (c.in_err-manifest.ensures.refused files is))

pub returns-in_err-manifest-clause-sure : goal.returns-in_err-manifest-clause-sure
returns-in_err-manifest-clause-sure g c =
    if_err_is c.from_residual.result _ _ c.from_residual.ensures.1 (λ files s m is reads. stop_none files _ s m (c.in_err-manifest.ensures.refused files is) reads)

pub returns-in_err-rows-clause-refused : goal.returns-in_err-rows-clause-refused
returns-in_err-rows-clause-refused g c =
    if_err_is c.from_residual-in_err-rows.result _ _ c.from_residual-in_err-rows.ensures.1 (λ files is.
    told_of files _ _ _ _ (c.in_ok-manifest.ensures.ok files is)
    (rows_trouble_as files _ _ _ _ _ c.state-mark.ensures c.rows.ensures.value (c.in_err-rows.ensures.first files (c.in_ok-manifest.ensures.same ∙ is))))

pub returns-in_err-rows-clause-sure : goal.returns-in_err-rows-clause-sure
returns-in_err-rows-clause-sure g c =
    if_err_is c.from_residual-in_err-rows.result _ _ c.from_residual-in_err-rows.ensures.1 (λ files s mark is reads.
    stop_of files _ _ _ _ s mark (c.in_ok-manifest.ensures.ok files is)
    (rows_trouble_as files _ _ _ _ _ c.state-mark.ensures c.rows.ensures.value (c.in_err-rows.ensures.first files (c.in_ok-manifest.ensures.same ∙ is))) reads)

pub returns-clause-found : goal.returns-clause-found
returns-clause-found g c = λ files is.
    found_of files _ _ _ _ (c.in_ok-manifest.ensures.ok files is)
    (are_read_as files _ _ _ _ _ c.state-mark.ensures c.rows.ensures.value (c.in_ok-rows.ensures.read files (c.in_ok-manifest.ensures.same ∙ is))) c.params.ensures c.state-mark.ensures
