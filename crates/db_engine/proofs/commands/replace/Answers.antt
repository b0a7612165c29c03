use Rattle.std.proofs.Common.{Err, inl, sym, ap, ◌∙◌}
use Rattle.database.specs.Cells.{row_key, has_row}
use Rattle.database.specs.Commands.{Replace, PutCell}
use Rattle.database.specs.declared.answer.EngineAnswer.TheVariants.{CellAbsent}
use Rattle.cell_mosaic.specs.Whole.{key_in}
use Rattle.db_engine.proofs.CellRows.{replace_absent, replace_none}
use Rattle.db_engine.proofs.EditsEnd.{edit_ran, edited_ran, edited_refused, edit_ends}
use Rattle.db_engine.proofs.commands.replace.Goals as goal

pub returns-then-not-has_row-clause-edited : goal.returns-then-not-has_row-clause-edited
returns-then-not-has_row-clause-edited g c = λ s h.
    let k = key_in c.args.cell.now in
    let bytes = c.args.cell.now in
    let rows = c.args.opened.now.rows in
    let key = c.row_key-key.ensures ∙ ap row_key c.row_of.ensures.value in
    let has = sym (λ i. has_row (c.summaries.ensures.value i) (key i)) ∙ sym c.has_row.ensures ∙ c.if-not-has_row.true in
    edited_refused (Replace k bytes) s c.args.opened.now _ _ _ _ (CellAbsent k.square k.level) _ (replace_absent k bytes rows has) (λ i. Err (CellAbsent (key i).square (key i).level)) h

pub returns-clause-edited : goal.returns-clause-edited
returns-clause-edited g c = λ s h.
    let k = key_in c.args.cell.now in
    let bytes = c.args.cell.now in
    let rows = c.args.opened.now.rows in
    let key = c.row_key-key.ensures ∙ ap row_key c.row_of.ensures.value in
    let has = sym (λ i. has_row (c.summaries.ensures.value i) (key i)) ∙ sym c.has_row.ensures ∙ c.if-not-has_row.false in
    edited_ran (Replace k bytes) s c.args.opened.now c.put_in.new.opened _ _ c.put_in.result (replace_none k bytes rows has) h
    (edit_ran (PutCell k bytes) s c.args.opened.now c.put_in.new.opened _ _ c.put_in.result c.put_in.ensures.sound (inl has) h (c.put_in.ensures.ran s h) (c.put_in.ensures.stop s h) (c.put_in.ensures.few s h) c.put_in.ensures.turned)

pub returns-clause-ends : goal.returns-clause-ends
returns-clause-ends g c = λ s st none.
    let k = key_in c.args.cell.now in
    let bytes = c.args.cell.now in
    let rows = c.args.opened.now.rows in
    let key = c.row_key-key.ensures ∙ ap row_key c.row_of.ensures.value in
    let has = sym (λ i. has_row (c.summaries.ensures.value i) (key i)) ∙ sym c.has_row.ensures ∙ c.if-not-has_row.false in
    edit_ends (PutCell k bytes) s c.args.opened.now c.put_in.new.opened _ _ c.put_in.result c.put_in.ensures.sound (inl has) st (c.put_in.ensures.ran s st.holds) c.put_in.ensures.turned
