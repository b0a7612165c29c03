use Rattle.std.proofs.Common.{sym, ap, ◌∙◌, Some}
use Rattle.std.specs.FinMap.{get}
use Rattle.terrain_base.specs.Step.{items_of}
use Rattle.terrain_base.proofs.Runs.{at_err, not_yet, ran_on}
use Rattle.db_engine.proofs.Settles.{staged_closing, found_is, not_lost}
use Rattle.db_engine.proofs.settling.put_staged.Goals as goal

pub returns-in_err-bytes-clause-ran : goal.returns-in_err-bytes-clause-ran
returns-in_err-bytes-clause-ran g c = λ s st. at_err c.from_residual.result _ c.from_residual.ensures.1 (not_yet c.in_err-bytes.ensures.same c.in_err-bytes.ensures.quiet)

pub returns-in-Some-clause-ran : goal.returns-in-Some-clause-ran
returns-in-Some-clause-ran g c = λ s st.
    let closing = staged_closing _ _ _ _ c.args.key s _ st c.in_ok-bytes.ensures.same (ap Some c.deref.ensures.value ∙ ap items_of (sym c.in-Some.is) ∙ found_is _ st.files _ _ st.held_is c.in_ok-bytes.ensures.found ∙ ap (get st.files) c.stage-name.ensures) in
    ran_on c.close.result c.in_ok-bytes.ensures.same c.in_ok-bytes.ensures.quiet (c.close.ensures.ran s closing)

pub returns-in-Some-clause-stop : goal.returns-in-Some-clause-stop
returns-in-Some-clause-stop g c = λ s st.
    let closing = staged_closing _ _ _ _ c.args.key s _ st c.in_ok-bytes.ensures.same (ap Some c.deref.ensures.value ∙ ap items_of (sym c.in-Some.is) ∙ found_is _ st.files _ _ st.held_is c.in_ok-bytes.ensures.found ∙ ap (get st.files) c.stage-name.ensures) in
    c.close.ensures.stop s closing

pub returns-in-Some-clause-few : goal.returns-in-Some-clause-few
returns-in-Some-clause-few g c = λ s st.
    let closing = staged_closing _ _ _ _ c.args.key s _ st c.in_ok-bytes.ensures.same (ap Some c.deref.ensures.value ∙ ap items_of (sym c.in-Some.is) ∙ found_is _ st.files _ _ st.held_is c.in_ok-bytes.ensures.found ∙ ap (get st.files) c.stage-name.ensures) in
    c.close.ensures.few s closing

pub returns-in-None-clause-stop : goal.returns-in-None-clause-stop
returns-in-None-clause-stop g c = λ s st.
    absurd (not_lost st (sym (ap items_of (sym c.in-None.is) ∙ found_is _ st.files _ _ st.held_is c.in_ok-bytes.ensures.found ∙ ap (get st.files) c.stage-name.ensures)))

pub returns-in-None-clause-ran : goal.returns-in-None-clause-ran
returns-in-None-clause-ran g c = λ s st.
    absurd (not_lost st (sym (ap items_of (sym c.in-None.is) ∙ found_is _ st.files _ _ st.held_is c.in_ok-bytes.ensures.found ∙ ap (get st.files) c.stage-name.ensures)))
