use Rattle.std.proofs.Common.{sym, ap, subst, ◌∙◌}
use Rattle.database.specs.Cells.{AreRows}
use Rattle.terrain_base.proofs.Runs.{at_ok, at_err}
use Rattle.db_files.specs.Trouble.{OnlyStopsOrRowTrouble}
use Rattle.db_files.proofs.Troubles.{trouble_on}
use Rattle.db_files.proofs.Parts.{same_stop}
use Rattle.db_engine.specs.Opened.{contents_of}
use Rattle.db_engine.proofs.Starts.{holds_filling, rebuilds_of, rebuilds_stop, rebuilt}
use Rattle.db_engine.proofs.starting.rebuild.Goals as goal

pub restart-requires : goal.restart-requires
restart-requires g c = record { rows = subst AreRows (sym c.summaries.ensures.value) c.summaries.ensures.rows }

pub returns-in_err-restart-clause-ran : goal.returns-in_err-restart-clause-ran
returns-in_err-restart-clause-ran g c = λ s h.
    let params = c.params-params.ensures ∙ ap (λ o. o.params) c.begin.ensures in
    let rows = c.summaries.ensures.value ∙ ap (λ o. o.rows) c.begin.ensures in
    at_err c.from_residual.result _ c.from_residual.ensures.1 (c.in_err-restart.ensures.ran h.files s (holds_filling _ _ h params rows)).err

pub returns-in_err-restart-clause-rebuilds : goal.returns-in_err-restart-clause-rebuilds
returns-in_err-restart-clause-rebuilds g c = λ s h.
    let params = c.params-params.ensures ∙ ap (λ o. o.params) c.begin.ensures in
    let rows = c.summaries.ensures.value ∙ ap (λ o. o.rows) c.begin.ensures in
    rebuilds_stop c.from_residual.result _ c.from_residual.ensures.1 h (c.in_err-restart.ensures.ran h.files s (holds_filling _ _ h params rows)).err

pub returns-in_err-restart-clause-settles : goal.returns-in_err-restart-clause-settles
returns-in_err-restart-clause-settles g c = λ s st.
    let params = c.params-params.ensures ∙ ap (λ o. o.params) c.begin.ensures in
    let rows = c.summaries.ensures.value ∙ ap (λ o. o.rows) c.begin.ensures in
    rebuilt c.from_residual.result st (at_err c.from_residual.result _ c.from_residual.ensures.1 (c.in_err-restart.ensures.ran st.holds.files s (holds_filling _ _ st.holds params rows)).err)

pub returns-in_err-restart-clause-stop : goal.returns-in_err-restart-clause-stop
returns-in_err-restart-clause-stop g c = λ s h.
    let params = c.params-params.ensures ∙ ap (λ o. o.params) c.begin.ensures in
    let rows = c.summaries.ensures.value ∙ ap (λ o. o.rows) c.begin.ensures in
    same_stop c.from_residual.result _ c.from_residual.ensures.1 (c.in_err-restart.ensures.stop h.files s (holds_filling _ _ h params rows))

pub returns-in_err-restart-clause-few : goal.returns-in_err-restart-clause-few
returns-in_err-restart-clause-few g c = λ s h.
    let params = c.params-params.ensures ∙ ap (λ o. o.params) c.begin.ensures in
    let rows = c.summaries.ensures.value ∙ ap (λ o. o.rows) c.begin.ensures in
    c.in_err-restart.ensures.few h.files s (holds_filling _ _ h params rows)

pub returns-clause-ran : goal.returns-clause-ran
returns-clause-ran g c = λ s h.
    let params = c.params-params.ensures ∙ ap (λ o. o.params) c.begin.ensures in
    let rows = c.summaries.ensures.value ∙ ap (λ o. o.rows) c.begin.ensures in
    at_ok (c.in_ok-restart.ensures.ran h.files s (holds_filling _ _ h params rows)).ok

pub returns-clause-rebuilds : goal.returns-clause-rebuilds
returns-clause-rebuilds g c = λ s h.
    let params = c.params-params.ensures ∙ ap (λ o. o.params) c.begin.ensures in
    let rows = c.summaries.ensures.value ∙ ap (λ o. o.rows) c.begin.ensures in
    let same = c.go_on.ensures ∙ (λ i. contents_of (c.begin.ensures i).params (c.begin.ensures i).rows ((sym c.requires) i)) in
    rebuilds_of _ h same (at_ok (c.in_ok-restart.ensures.ran h.files s (holds_filling _ _ h params rows)).ok)

pub returns-clause-settles : goal.returns-clause-settles
returns-clause-settles g c = λ s st.
    let params = c.params-params.ensures ∙ ap (λ o. o.params) c.begin.ensures in
    let rows = c.summaries.ensures.value ∙ ap (λ o. o.rows) c.begin.ensures in
    rebuilt _ st (at_ok (c.in_ok-restart.ensures.ran st.holds.files s (holds_filling _ _ st.holds params rows)).ok)

pub returns-clause-few : goal.returns-clause-few
returns-clause-few g c = λ s h.
    let params = c.params-params.ensures ∙ ap (λ o. o.params) c.begin.ensures in
    let rows = c.summaries.ensures.value ∙ ap (λ o. o.rows) c.begin.ensures in
    c.in_ok-restart.ensures.few h.files s (holds_filling _ _ h params rows)

pub returns-clause-ok : goal.returns-clause-ok
returns-clause-ok g c = c.go_on.ensures ∙ (λ i. contents_of (c.begin.ensures i).params (c.begin.ensures i).rows ((sym c.requires) i))

pub returns-in_err-restart-clause-trouble : goal.returns-in_err-restart-clause-trouble
returns-in_err-restart-clause-trouble g c =
    let rows = c.summaries.ensures.value ∙ ap (λ o. o.rows) c.begin.ensures in
    subst (λ list. OnlyStopsOrRowTrouble list (g.S.Store.holds c.args.store.now) c.from_residual.result) rows
    (trouble_on _ _ c.from_residual.result _ c.from_residual.ensures.1 c.in_err-restart.ensures.trouble)
