use Rattle.std.proofs.Common.{refl, sym, ap, subst, ◌∙◌}
use Rattle.terrain_base.proofs.Runs.{both_done, goes_on, stops, not_yet, at_ok, at_err, some_as, all_as}
use Rattle.database.specs.Cells.{AreRows, has_row}
use Rattle.database.specs.Commands.{DropCell, after}
use Rattle.std.specs.Prelude.{true, not}
use Rattle.db_engine.specs.Opened.{contents_of}
use Rattle.db_engine.specs.Rows.{without_row}
use Rattle.db_engine.proofs.EditsEnd.{drop_opening, drop_closing, drop_rows_are, sound_after}
use Rattle.db_files.proofs.Troubles.{trouble_on}
use Rattle.db_files.proofs.Parts.{same_stop}
use Rattle.db_files.proofs.RowKeys.{any_key}
use Rattle.db_engine.proofs.EditTroubles.{edit_stop, drop_trouble}
use Rattle.db_engine.proofs.Passing.{turned_off}
use Rattle.db_engine.proofs.commands.take_out.Goals as goal

pub without_row-requires : goal.without_row-requires
without_row-requires g c = subst AreRows (sym c.summaries.ensures.value) c.summaries.ensures.rows

pub put_mark-requires-clause-fits : goal.put_mark-requires-clause-fits
put_mark-requires-clause-fits g c =
    ap not (sym (any_key c.deref.result.now c.args.key) ∙ ap (λ rows. has_row rows c.args.key) c.deref.ensures.value ∙ c.in_ok-rows.ensures.gone)

pub returns-in_err-rows-clause-ran : goal.returns-in_err-rows-clause-ran
returns-in_err-rows-clause-ran g c = λ s h. at_err c.from_residual.result _ c.from_residual.ensures.1 (not_yet refl refl)

pub returns-in_err-rows-clause-turned : goal.returns-in_err-rows-clause-turned
returns-in_err-rows-clause-turned g c = turned_off _ _ _ c.from_residual.result _ c.from_residual.ensures.1 c.begin.ensures

pub returns-in_err-put_mark-clause-ran : goal.returns-in_err-put_mark-clause-ran
returns-in_err-put_mark-clause-ran g c = λ s h.
    let edit = DropCell c.args.key in
    let same = c.summaries.ensures.value ∙ ap (λ o. o.rows) c.begin.ensures in
    let rows = drop_rows_are s c.args.key _ _ h same c.in_ok-rows.ensures.value in
    let params = c.params-params.ensures ∙ ap (λ o. o.params) c.begin.ensures ∙ h.params_is in
    let opening = drop_opening s c.args.key _ _ params (c.deref.ensures.value ∙ rows) in
    at_err c.from_residual-in_err-put_mark.result _ c.from_residual-in_err-put_mark.ensures.1 (stops _ (some_as opening c.in_err-put_mark.ensures.ran.err))

pub returns-in_err-put_mark-clause-turned : goal.returns-in_err-put_mark-clause-turned
returns-in_err-put_mark-clause-turned g c = turned_off _ _ _ c.from_residual-in_err-put_mark.result _ c.from_residual-in_err-put_mark.ensures.1 c.begin.ensures

pub returns-in_err-close-clause-ran : goal.returns-in_err-close-clause-ran
returns-in_err-close-clause-ran g c = λ s h.
    let edit = DropCell c.args.key in
    let same = c.summaries.ensures.value ∙ ap (λ o. o.rows) c.begin.ensures in
    let rows = drop_rows_are s c.args.key _ _ h same c.in_ok-rows.ensures.value in
    let params = c.params-params.ensures ∙ ap (λ o. o.params) c.begin.ensures ∙ h.params_is in
    let opening = drop_opening s c.args.key _ _ params (c.deref.ensures.value ∙ rows) in
    let sound = sound_after edit s tt tt h in
    let closing = drop_closing s c.args.key _ _ _ h sound params (c.deref-2.ensures.value ∙ rows) c.in_ok-put_mark.ensures.ran.ok in
    at_err c.from_residual-in_err-close.result _ c.from_residual-in_err-close.ensures.1
    (goes_on (all_as opening c.in_ok-put_mark.ensures.ran.ok) (c.in_err-close.ensures.ran (after edit s) closing).err)

pub returns-in_err-close-clause-stop : goal.returns-in_err-close-clause-stop
returns-in_err-close-clause-stop g c = λ s h.
    let edit = DropCell c.args.key in
    let same = c.summaries.ensures.value ∙ ap (λ o. o.rows) c.begin.ensures in
    let rows = drop_rows_are s c.args.key _ _ h same c.in_ok-rows.ensures.value in
    let params = c.params-params.ensures ∙ ap (λ o. o.params) c.begin.ensures ∙ h.params_is in
    let opening = drop_opening s c.args.key _ _ params (c.deref.ensures.value ∙ rows) in
    let sound = sound_after edit s tt tt h in
    let closing = drop_closing s c.args.key _ _ _ h sound params (c.deref-2.ensures.value ∙ rows) c.in_ok-put_mark.ensures.ran.ok in
    same_stop c.from_residual-in_err-close.result _ c.from_residual-in_err-close.ensures.1 (c.in_err-close.ensures.stop (after edit s) closing)

pub returns-in_err-close-clause-few : goal.returns-in_err-close-clause-few
returns-in_err-close-clause-few g c = λ s h.
    let edit = DropCell c.args.key in
    let same = c.summaries.ensures.value ∙ ap (λ o. o.rows) c.begin.ensures in
    let rows = drop_rows_are s c.args.key _ _ h same c.in_ok-rows.ensures.value in
    let params = c.params-params.ensures ∙ ap (λ o. o.params) c.begin.ensures ∙ h.params_is in
    let opening = drop_opening s c.args.key _ _ params (c.deref.ensures.value ∙ rows) in
    let sound = sound_after edit s tt tt h in
    let closing = drop_closing s c.args.key _ _ _ h sound params (c.deref-2.ensures.value ∙ rows) c.in_ok-put_mark.ensures.ran.ok in
    c.in_err-close.ensures.few (after edit s) closing

pub returns-in_err-close-clause-turned : goal.returns-in_err-close-clause-turned
returns-in_err-close-clause-turned g c = turned_off _ _ _ c.from_residual-in_err-close.result _ c.from_residual-in_err-close.ensures.1 c.begin.ensures

pub returns-clause-ran : goal.returns-clause-ran
returns-clause-ran g c = λ s h.
    let edit = DropCell c.args.key in
    let same = c.summaries.ensures.value ∙ ap (λ o. o.rows) c.begin.ensures in
    let rows = drop_rows_are s c.args.key _ _ h same c.in_ok-rows.ensures.value in
    let params = c.params-params.ensures ∙ ap (λ o. o.params) c.begin.ensures ∙ h.params_is in
    let opening = drop_opening s c.args.key _ _ params (c.deref.ensures.value ∙ rows) in
    let sound = sound_after edit s tt tt h in
    let closing = drop_closing s c.args.key _ _ _ h sound params (c.deref-2.ensures.value ∙ rows) c.in_ok-put_mark.ensures.ran.ok in
    at_ok (both_done (all_as opening c.in_ok-put_mark.ensures.ran.ok) (c.in_ok-close.ensures.ran (after edit s) closing).ok)

pub returns-clause-few : goal.returns-clause-few
returns-clause-few g c = λ s h.
    let edit = DropCell c.args.key in
    let same = c.summaries.ensures.value ∙ ap (λ o. o.rows) c.begin.ensures in
    let rows = drop_rows_are s c.args.key _ _ h same c.in_ok-rows.ensures.value in
    let params = c.params-params.ensures ∙ ap (λ o. o.params) c.begin.ensures ∙ h.params_is in
    let opening = drop_opening s c.args.key _ _ params (c.deref.ensures.value ∙ rows) in
    let sound = sound_after edit s tt tt h in
    let closing = drop_closing s c.args.key _ _ _ h sound params (c.deref-2.ensures.value ∙ rows) c.in_ok-put_mark.ensures.ran.ok in
    c.in_ok-close.ensures.few (after edit s) closing

pub returns-clause-turned : goal.returns-clause-turned
returns-clause-turned g c =
    let list = c.in_ok-rows.ensures.value ∙ ap (λ rows. without_row rows c.args.key) (c.summaries.ensures.value ∙ ap (λ o. o.rows) c.begin.ensures) in
    record { ok = c.end.ensures ∙ (λ i. contents_of ((ap (λ o. o.params) c.begin.ensures) i) (list i) true); err = tt }

pub returns-in_err-rows-clause-trouble : goal.returns-in_err-rows-clause-trouble
returns-in_err-rows-clause-trouble g c = edit_stop _ _ _ c.from_residual.result (same_stop c.from_residual.result _ c.from_residual.ensures.1 tt)

pub returns-in_err-put_mark-clause-trouble : goal.returns-in_err-put_mark-clause-trouble
returns-in_err-put_mark-clause-trouble g c =
    edit_stop _ _ _ c.from_residual-in_err-put_mark.result (same_stop c.from_residual-in_err-put_mark.result _ c.from_residual-in_err-put_mark.ensures.1 c.in_err-put_mark.ensures.stop)

pub returns-in_err-close-clause-trouble : goal.returns-in_err-close-clause-trouble
returns-in_err-close-clause-trouble g c =
    let list = c.in_ok-rows.ensures.value ∙ ap (λ rows. without_row rows c.args.key) (c.summaries.ensures.value ∙ ap (λ o. o.rows) c.begin.ensures) in
    drop_trouble c.args.key _ c.args.opened.now.rows c.deref-2.result.now c.from_residual-in_err-close.result (c.deref-2.ensures.value ∙ list) c.in_ok-put_mark.ensures.ran.ok
    (trouble_on _ _ c.from_residual-in_err-close.result _ c.from_residual-in_err-close.ensures.1 c.in_err-close.ensures.trouble)

pub returns-clause-trouble : goal.returns-clause-trouble
returns-clause-trouble g c = edit_stop _ _ _ _ tt
