use Rattle.std.proofs.Common.{refl, sym, ap, ◌∙◌}
use Rattle.database.specs.Cells.{has_row}
use Rattle.database.specs.Commands.{Remove, DropCell}
use Rattle.database.specs.declared.answer.EngineAnswer.TheVariants.{CellAbsent}
use Rattle.db_engine.proofs.CellRows.{remove_absent, remove_none}
use Rattle.db_engine.proofs.EditsEnd.{edit_ran, edited_ran, edited_refused, edit_ends}
use Rattle.db_engine.proofs.commands.remove.Goals as goal

pub returns-then-not-has_row-clause-edited : goal.returns-then-not-has_row-clause-edited
returns-then-not-has_row-clause-edited g c = λ s h.
    let k = c.args.key in
    let rows = c.args.opened.now.rows in
    let has = sym (ap (λ list. has_row list k) c.summaries.ensures.value) ∙ sym c.has_row.ensures ∙ c.if-not-has_row.true in
    edited_refused (Remove k) s c.args.opened.now _ _ _ _ (CellAbsent k.square k.level) _ (remove_absent k rows has) refl h

pub returns-clause-edited : goal.returns-clause-edited
returns-clause-edited g c = λ s h.
    let k = c.args.key in
    let rows = c.args.opened.now.rows in
    let has = sym (ap (λ list. has_row list k) c.summaries.ensures.value) ∙ sym c.has_row.ensures ∙ c.if-not-has_row.false in
    edited_ran (Remove k) s c.args.opened.now c.take_out.new.opened _ _ c.take_out.result (remove_none k rows has) h
    (edit_ran (DropCell k) s c.args.opened.now c.take_out.new.opened _ _ c.take_out.result tt tt h (c.take_out.ensures.ran s h) (c.take_out.ensures.stop s h) (c.take_out.ensures.few s h) c.take_out.ensures.turned)

pub returns-clause-ends : goal.returns-clause-ends
returns-clause-ends g c = λ s st none.
    edit_ends (DropCell c.args.key) s c.args.opened.now c.take_out.new.opened _ _ c.take_out.result tt tt st (c.take_out.ensures.ran s st.holds) c.take_out.ensures.turned
