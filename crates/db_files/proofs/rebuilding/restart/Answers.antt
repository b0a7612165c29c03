use Rattle.std.proofs.Common.{refl, ◌∙◌}
use Rattle.cell_cache.specs.Cached.{shapes_of_rows}
use Rattle.terrain_base.proofs.Runs.{all_some, one_done, first_fails, not_yet, at_err, as_step, write_is}
use Rattle.db_files.proofs.Alike.{alike_some, write_manifest}
use Rattle.db_files.proofs.Fillings.{marked_filling}
use Rattle.db_files.proofs.Parts.{ran_behind}
use Rattle.db_files.proofs.RowKeys.{text_is}
use Rattle.db_files.proofs.Troubles.{result_before}
use Rattle.db_files.proofs.rebuilding.restart.Goals as goal

pub returns-in_err-text-clause-ran : goal.returns-in_err-text-clause-ran
returns-in_err-text-clause-ran g c = λ files s f. at_err c.from_residual.result _ c.from_residual.ensures.1 (not_yet refl refl)

pub returns-in_err-put-clause-ran : goal.returns-in_err-put-clause-ran
returns-in_err-put-clause-ran g c = λ files s f.
    let text = write_is c.manifest.ensures (c.deref.ensures.value ∙ c.in_ok-text.ensures ∙ text_is s _ f.params_is f.rows_is) in
    at_err c.from_residual-in_err-put.result _ c.from_residual-in_err-put.ensures.1 (first_fails (as_step text c.in_err-put.ensures.does))

pub returns-clause-ran : goal.returns-clause-ran
returns-clause-ran g c = λ files s f.
    let text = write_is c.manifest.ensures (c.deref.ensures.value ∙ c.in_ok-text.ensures ∙ text_is s _ f.params_is f.rows_is) in
    let done = one_done (as_step text c.in_ok-put.ensures.does) in
    ran_behind c.refill.result done (c.refill.ensures.ran _ s (marked_filling files s f done))

pub returns-clause-stop : goal.returns-clause-stop
returns-clause-stop g c = λ files s f.
    let text = write_is c.manifest.ensures (c.deref.ensures.value ∙ c.in_ok-text.ensures ∙ text_is s _ f.params_is f.rows_is) in
    let done = one_done (as_step text c.in_ok-put.ensures.does) in
    c.refill.ensures.stop _ s (marked_filling files s f done)

pub returns-clause-few : goal.returns-clause-few
returns-clause-few g c = λ files s f.
    let text = write_is c.manifest.ensures (c.deref.ensures.value ∙ c.in_ok-text.ensures ∙ text_is s _ f.params_is f.rows_is) in
    let done = one_done (as_step text c.in_ok-put.ensures.does) in
    c.refill.ensures.few _ s (marked_filling files s f done)

pub returns-clause-trouble : goal.returns-clause-trouble
returns-clause-trouble g c =
    let keys = shapes_of_rows c.args.rows.now in
    let marked = all_some (one_done (as_step (write_is c.manifest.ensures refl) c.in_ok-put.ensures.does)) in
    result_before keys _ _ c.refill.result (alike_some keys (write_manifest keys c.deref.result.now) marked) c.refill.ensures.trouble
