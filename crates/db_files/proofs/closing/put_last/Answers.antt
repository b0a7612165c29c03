use Rattle.std.proofs.Common.{refl, ap, ◌∙◌}
use Rattle.terrain_base.specs.Step.{Erase}
use Rattle.terrain_base.proofs.Runs.{one_done, both_done, first_fails, goes_on, at_ok, at_err, not_yet, as_step, write_is}
use Rattle.db_files.proofs.RowKeys.{layer_is, text_is}
use Rattle.db_files.proofs.closing.put_last.Goals as goal

pub returns-in_err-layer-clause-ran : goal.returns-in_err-layer-clause-ran
returns-in_err-layer-clause-ran g c = λ s p r. at_err c.from_residual.result _ c.from_residual.ensures.1 (not_yet refl refl)

pub returns-in_err-put-clause-ran : goal.returns-in_err-put-clause-ran
returns-in_err-put-clause-ran g c = λ s p r.
    let layer = write_is c.layer.ensures (c.deref.ensures.value ∙ c.in_ok-layer.ensures ∙ layer_is s p r) in
    at_err c.from_residual-in_err-put.result _ c.from_residual-in_err-put.ensures.1 (first_fails (as_step layer c.in_err-put.ensures.does))

pub returns-in_err-manifest-clause-ran : goal.returns-in_err-manifest-clause-ran
returns-in_err-manifest-clause-ran g c = λ s p r.
    let layer = write_is c.layer.ensures (c.deref.ensures.value ∙ c.in_ok-layer.ensures ∙ layer_is s p r) in
    at_err c.from_residual-in_err-manifest.result _ c.from_residual-in_err-manifest.ensures.1 (goes_on (one_done (as_step layer c.in_ok-put.ensures.does)) (not_yet refl refl))

pub returns-in_err-put-2-clause-ran : goal.returns-in_err-put-2-clause-ran
returns-in_err-put-2-clause-ran g c = λ s p r.
    let layer = write_is c.layer.ensures (c.deref.ensures.value ∙ c.in_ok-layer.ensures ∙ layer_is s p r) in
    let manifest = write_is c.manifest.ensures (c.deref-2.ensures.value ∙ c.in_ok-manifest.ensures ∙ text_is s _ p r) in
    at_err c.from_residual-in_err-put-2.result _ c.from_residual-in_err-put-2.ensures.1 (goes_on (one_done (as_step layer c.in_ok-put.ensures.does)) (first_fails (as_step manifest c.in_err-put-2.ensures.does)))

pub returns-in_err-delete-clause-ran : goal.returns-in_err-delete-clause-ran
returns-in_err-delete-clause-ran g c = λ s p r.
    let layer = write_is c.layer.ensures (c.deref.ensures.value ∙ c.in_ok-layer.ensures ∙ layer_is s p r) in
    let manifest = write_is c.manifest.ensures (c.deref-2.ensures.value ∙ c.in_ok-manifest.ensures ∙ text_is s _ p r) in
    at_err c.from_residual-in_err-delete.result _ c.from_residual-in_err-delete.ensures.1
    (goes_on (one_done (as_step layer c.in_ok-put.ensures.does)) (goes_on (one_done (as_step manifest c.in_ok-put-2.ensures.does)) (first_fails (as_step (ap Erase c.stage.ensures) c.in_err-delete.ensures.does))))

pub returns-clause-ran : goal.returns-clause-ran
returns-clause-ran g c = λ s p r.
    let layer = write_is c.layer.ensures (c.deref.ensures.value ∙ c.in_ok-layer.ensures ∙ layer_is s p r) in
    let manifest = write_is c.manifest.ensures (c.deref-2.ensures.value ∙ c.in_ok-manifest.ensures ∙ text_is s _ p r) in
    at_ok (both_done (one_done (as_step layer c.in_ok-put.ensures.does)) (both_done (one_done (as_step manifest c.in_ok-put-2.ensures.does)) (one_done (as_step (ap Erase c.stage.ensures) c.in_ok-delete.ensures.does))))
