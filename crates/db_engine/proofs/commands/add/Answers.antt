use Rattle.std.proofs.Common.{◌<◌, ◌≤◌, length, Err, inr, refl, sym, ap, subst, ◌∙◌}
use Rattle.database.specs.Cells.{row_key, has_row}
use Rattle.database.specs.Commands.{Add, PutCell}
use Rattle.database.specs.declared.answer.EngineAnswer.TheVariants.{CellPresent, DatabaseFull}
use Rattle.cell_mosaic.specs.Whole.{key_in}
use Rattle.db_engine.proofs.CellRows.{add_present, add_full, add_none}
use Rattle.db_engine.proofs.EditsEnd.{edit_ran, edited_ran, edited_refused, edit_ends}
use Rattle.db_engine.proofs.commands.add.Goals as goal

pub returns-then-has_row-clause-edited : goal.returns-then-has_row-clause-edited
returns-then-has_row-clause-edited g c = λ s h.
    let k = key_in c.args.cell.now in
    let bytes = c.args.cell.now in
    let rows = c.args.opened.now.rows in
    let key = c.row_key-key.ensures ∙ ap row_key c.row_of.ensures.value in
    let has = sym (λ i. has_row (c.summaries-rows.ensures.value i) (key i)) ∙ sym c.has_row.ensures ∙ c.if-has_row.true in
    edited_refused (Add k bytes) s c.args.opened.now _ _ _ _ (CellPresent k.square k.level) _ (add_present k bytes rows has) (λ i. Err (CellPresent (key i).square (key i).level)) h

pub returns-then-rows-ge4096-clause-edited : goal.returns-then-rows-ge4096-clause-edited
returns-then-rows-ge4096-clause-edited g c = λ s h.
    let k = key_in c.args.cell.now in
    let bytes = c.args.cell.now in
    let rows = c.args.opened.now.rows in
    let key = c.row_key-key.ensures ∙ ap row_key c.row_of.ensures.value in
    let has = sym (λ i. has_row (c.summaries-rows.ensures.value i) (key i)) ∙ sym c.has_row.ensures ∙ c.if-has_row.false in
    let full : 4096 ≤ length rows = subst (λ list. 4096 ≤ length list) c.summaries-rows.ensures.value c.if-rows-ge4096.true in
    edited_refused (Add k bytes) s c.args.opened.now _ _ _ _ DatabaseFull _ (add_full k bytes rows has full) refl h

pub returns-clause-edited : goal.returns-clause-edited
returns-clause-edited g c = λ s h.
    let k = key_in c.args.cell.now in
    let bytes = c.args.cell.now in
    let rows = c.args.opened.now.rows in
    let key = c.row_key-key.ensures ∙ ap row_key c.row_of.ensures.value in
    let has = sym (λ i. has_row (c.summaries-rows.ensures.value i) (key i)) ∙ sym c.has_row.ensures ∙ c.if-has_row.false in
    let less : length rows < 4096 = subst (λ list. length list < 4096) c.summaries-rows.ensures.value c.if-rows-ge4096.false in
    edited_ran (Add k bytes) s c.args.opened.now c.put_in.new.opened _ _ c.put_in.result (add_none k bytes rows has less) h
    (edit_ran (PutCell k bytes) s c.args.opened.now c.put_in.new.opened _ _ c.put_in.result c.put_in.ensures.sound (inr less) h (c.put_in.ensures.ran s h) (c.put_in.ensures.stop s h) (c.put_in.ensures.few s h) c.put_in.ensures.turned)

pub returns-clause-ends : goal.returns-clause-ends
returns-clause-ends g c = λ s st none.
    let k = key_in c.args.cell.now in
    let bytes = c.args.cell.now in
    let rows = c.args.opened.now.rows in
    let less : length rows < 4096 = subst (λ list. length list < 4096) c.summaries-rows.ensures.value c.if-rows-ge4096.false in
    edit_ends (PutCell k bytes) s c.args.opened.now c.put_in.new.opened _ _ c.put_in.result c.put_in.ensures.sound (inr less) st (c.put_in.ensures.ran s st.holds) c.put_in.ensures.turned
