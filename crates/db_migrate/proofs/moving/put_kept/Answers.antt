use Rattle.std.proofs.Common.{◌≡◌, Some, None, [], ◌∷◌, sym, ap, ◌∙◌}
use Rattle.std.specs.FinMap.{get}
use Rattle.terrain_base.specs.declared.name.Key.TheVariants.{Cell}
use Rattle.terrain_base.specs.Overwrite.{step_to}
use Rattle.terrain_base.specs.Step.{items_of}
use Rattle.terrain_base.proofs.Runs.{at_err, not_yet, ran_on}
use Rattle.db_engine.proofs.Settles.{found_is}
use Rattle.db_old_reading.specs.Kept.{kept_under}
use Rattle.db_migrate.proofs.moving.put_kept.Goals as goal
use Rattle.db_files.proofs.Parts.{ran_as}

pub returns-in_err-bytes-clause-ran : goal.returns-in_err-bytes-clause-ran
returns-in_err-bytes-clause-ran g c = λ s st. at_err c.from_residual.result _ c.from_residual.ensures.1 (not_yet c.in_err-bytes.ensures.same c.in_err-bytes.ensures.quiet)

pub returns-in-Some-clause-ran : goal.returns-in-Some-clause-ran
returns-in-Some-clause-ran g c = λ s st.
    let name = c.kept_name-name.ensures ∙ ap (kept_under c.args.staged) c.row_of-row.ensures in
    let bytes = ap Some c.deref.ensures.value ∙ ap items_of (sym c.in-Some.is) ∙ found_is _ st.files _ _ st.held_is c.in_ok-bytes.ensures.found ∙ ap (get st.files) name ∙ st.kept ∙ sym st.cell in
    ran_on c.put_cell.result c.in_ok-bytes.ensures.same c.in_ok-bytes.ensures.quiet (ran_as _ (ap (λ o. step_to o (Cell c.args.key) ∷ []) bytes) c.put_cell.ensures.ran)

pub returns-in-None-clause-ran : goal.returns-in-None-clause-ran
returns-in-None-clause-ran g c = λ s st.
    let name = c.kept_name-name.ensures ∙ ap (kept_under c.args.staged) c.row_of-row.ensures in
    let gone : None ≡ Some st.bytes = ap items_of (sym c.in-None.is) ∙ found_is _ st.files _ _ st.held_is c.in_ok-bytes.ensures.found ∙ ap (get st.files) name ∙ st.kept in
    absurd (cc)

pub returns-in-None-clause-stop : goal.returns-in-None-clause-stop
returns-in-None-clause-stop g c = λ s st.
    let name = c.kept_name-name.ensures ∙ ap (kept_under c.args.staged) c.row_of-row.ensures in
    let gone : None ≡ Some st.bytes = ap items_of (sym c.in-None.is) ∙ found_is _ st.files _ _ st.held_is c.in_ok-bytes.ensures.found ∙ ap (get st.files) name ∙ st.kept in
    absurd (cc)
