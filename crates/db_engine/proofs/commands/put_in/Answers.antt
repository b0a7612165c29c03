use Rattle.std.proofs.Common.{sym, ap, subst, ◌∙◌, ◌≤◌, ◌+◌}
use Rattle.terrain_base.specs.Run.{Ran}
use Rattle.cell_mosaic.specs.Cells.{IsSoundCell}
use Rattle.tile_deps.specs.Tiles.{touched}
use Rattle.database.specs.Cells.{row_key}
use Rattle.database.specs.Commands.{PutCell, after, calls, key_of}
use Rattle.db_files.specs.Serving.{count_existing}
use Rattle.db_engine.specs.Edited.{Turned, EditTrouble}
use Rattle.db_engine.specs.Rows.{HasRoom}
use Rattle.db_engine.proofs.commands.put_in.Goals as goal

pub put_row-requires-clause-row : goal.put_row-requires-clause-row
put_row-requires-clause-row g c =
    c.row_of-row.ensures.value ∙ (λ i. Rattle.cell_mosaic.specs.Summaries.summary_of ((sym (c.row_key.ensures ∙ ap row_key c.row_of-row.ensures.value)) i) ((sym c.bytes.ensures.value) i))

pub put_row-requires-clause-sound : goal.put_row-requires-clause-sound
put_row-requires-clause-sound g c =
    subst (λ k. IsSoundCell k c.bytes.result.now) (sym (c.row_key.ensures ∙ ap row_key c.row_of-row.ensures.value)) (subst (IsSoundCell _) (sym c.bytes.ensures.value) c.row_of-row.ensures.sound)

pub put_row-requires-clause-room : goal.put_row-requires-clause-room
put_row-requires-clause-room g c = subst (HasRoom c.args.opened.now.rows) (sym (c.row_key.ensures ∙ ap row_key c.row_of-row.ensures.value)) c.requires.room

pub returns-clause-ran : goal.returns-clause-ran
returns-clause-ran g c = λ s h.
    let key = c.row_key.ensures ∙ ap row_key c.row_of-row.ensures.value in
    subst (λ edit. Ran (calls edit s) (g.S.Store.holds c.args.store.now) (g.S.Store.log c.args.store.now) (g.S.Store.holds c.put_row.new.store) (g.S.Store.log c.put_row.new.store) c.put_row.result)
    (λ i. PutCell (key i) (c.bytes.ensures.value i)) (c.put_row.ensures.ran s h)

pub returns-clause-few : goal.returns-clause-few
returns-clause-few g c = λ s h.
    let key = c.row_key.ensures ∙ ap row_key c.row_of-row.ensures.value in
    subst (λ edit. c.put_row.new.work ≤ c.args.work.now + count_existing (after edit s) (touched s.params.cap (key_of edit).square))
    (λ i. PutCell (key i) (c.bytes.ensures.value i)) (c.put_row.ensures.few s h)

pub returns-clause-turned : goal.returns-clause-turned
returns-clause-turned g c =
    let key = c.row_key.ensures ∙ ap row_key c.row_of-row.ensures.value in
    subst (λ edit. Turned edit c.args.opened.now c.put_row.new.opened c.put_row.result)
    (λ i. PutCell (key i) (c.bytes.ensures.value i)) c.put_row.ensures.turned

pub returns-clause-trouble : goal.returns-clause-trouble
returns-clause-trouble g c =
    let key = c.row_key.ensures ∙ ap row_key c.row_of-row.ensures.value in
    subst (λ edit. EditTrouble edit c.args.opened.now.rows (g.S.Store.holds c.args.store.now) c.put_row.result)
    (λ i. PutCell (key i) (c.bytes.ensures.value i)) c.put_row.ensures.trouble
