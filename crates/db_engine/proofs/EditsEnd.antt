-- From the mark of a command to what it leaves.
use Rattle.std.proofs.Common.{◌≡◌, ℕ, ◌+◌, ◌≤◌, List, [], ◌∷◌, Option, Some, None, Result, Ok, Err, OnOk, OnErr, IfSome, refl, sym, ap, subst, ◌∙◌}
use Rattle.std.specs.FinMap.{keys, insert, get-insert}
use Rattle.std.specs.Ordering.{eq_by_cmp}
use Rattle.manifest_lines.specs.declared.state.State.TheVariants.{Closed, Put, Drop}
use Rattle.terrain_base.specs.declared.cell_key.CellKey.{CellKey}
use Rattle.terrain_base.specs.declared.name.Key.TheVariants.{Manifest, Stage, Cell}
use Rattle.terrain_base.specs.declared.params.Params.{Params}
use Rattle.terrain_base.specs.declared.store.Change.{Change}
use Rattle.terrain_base.specs.declared.summary.Summary.{Summary}
use Rattle.terrain_base.specs.CellKey.{keys_total}
use Rattle.terrain_base.specs.Step.{Files, Write}
use Rattle.terrain_base.specs.Run.{AllDone, SomeDone, Ran, files_after}
use Rattle.terrain_base.specs.Overwrite.{all_changed}
use Rattle.terrain_base.proofs.Overwrites.{files_of_told}
use Rattle.terrain_base.proofs.Stops.{any_stop}
use Rattle.db_manifest.specs.Manifest.{ManifestState, manifest_text}
use Rattle.cell_mosaic.specs.Cells.{AreSound}
use Rattle.cell_mosaic.specs.Summaries.{summary_of, summaries_of}
use Rattle.tile_deps.specs.Tiles.{touched}
use Rattle.database.specs.declared.answer.EngineAnswer.{EngineAnswer}
use Rattle.database.specs.Answer.{OnlyStops}
use Rattle.database.specs.Cells.{row_keys}
use Rattle.database.specs.Commands.{Command, Edit, PutCell, DropCell, after, calls, edit_of, key_of, opening, marked_text, OldOrNew}
use Rattle.database.specs.State.{State, IsState, AreFiles, StandsMarked}
use Rattle.database.proofs.Command.{command_stands, command_ends}
use Rattle.database.proofs.Standing.{closed_stands}
use Rattle.database.proofs.Tests.{name_other, key_self}
use Rattle.db_files.specs.Serving.{Closing, count_existing}
use Rattle.db_files.proofs.RowKeys.{keys_of_rows}
use Rattle.db_engine.specs.Edited.{EditRan, Edited, EditedBy, Ends, Turned, ReadsAsOldOrNew}
use Rattle.db_engine.specs.Holding.{HoldsState, Stands}
use Rattle.db_engine.specs.Opened.{Contents}
use Rattle.db_engine.specs.Rows.{with_row, without_row, refusal_by_rows}
use Rattle.db_engine.proofs.CellRows.{put_summaries, drop_summaries, rows_are_after, refusal_is, state_after, IsSoundEdit, HasRoomFor}
use Rattle.db_engine.proofs.EditReads.{edit_reads, edit_closed, at_other}

-- ---- the mark, in the words of the state

mark_text : (m : ManifestState) (t : State) (params : Params) (rows : List Summary) → params ≡ t.params → rows ≡ summaries_of t.cells → manifest_text params m (row_keys rows) ≡ marked_text m t
mark_text m t params rows p r = (λ i. manifest_text (p i) m (row_keys (r i))) ∙ ap (manifest_text t.params m) (keys_of_rows t.cells)

pub put_opening : (s : State) (k : CellKey) (bytes : List ℕ) (params : Params) (rows : List Summary) → params ≡ s.params → rows ≡ summaries_of (after (PutCell k bytes) s).cells
    → Write Stage bytes ∷ Write Manifest (manifest_text params (Put k) (row_keys rows)) ∷ [] ≡ opening (PutCell k bytes) (after (PutCell k bytes) s)
put_opening s k bytes params rows p r =
    let text = mark_text (Put k) (after (PutCell k bytes) s) params rows p r in
    λ i. Write Stage bytes ∷ Write Manifest (text i) ∷ []

pub drop_opening : (s : State) (k : CellKey) (params : Params) (rows : List Summary) → params ≡ s.params → rows ≡ summaries_of (after (DropCell k) s).cells
    → Write Manifest (manifest_text params (Drop k) (row_keys rows)) ∷ [] ≡ opening (DropCell k) (after (DropCell k) s)
drop_opening s k params rows p r =
    let text = mark_text (Drop k) (after (DropCell k) s) params rows p r in
    λ i. Write Manifest (text i) ∷ []

-- ---- once the mark stands, what is left can be done

pub put_closing : {held held' : Option Files} {log log' : Option (List Change)} {o : Contents} (s : State) (k : CellKey) (bytes text : List ℕ) (params : Params) (rows : List Summary) → HoldsState held o s → AreSound (after (PutCell k bytes) s).cells
    → params ≡ s.params → rows ≡ summaries_of (after (PutCell k bytes) s).cells
    → AllDone (Write Stage bytes ∷ Write Manifest text ∷ []) held log held' log' → Closing held' params rows k (Some bytes) (after (PutCell k bytes) s)
put_closing s k bytes text params rows h sound p r done =
    record {
      files = insert (insert h.files Stage bytes) Manifest text;
      held_is = done.held ∙ ap (files_after (Write Stage bytes ∷ Write Manifest text ∷ [])) h.held_is;
      params_is = p;
      rows_is = r;
      sound = sound;
      cell_is = get-insert keys_total s.cells k bytes k ∙ rw (key_self k) refl;
      others = λ j found apart at.
          at_other (insert h.files Stage bytes) Manifest (Cell j) text (name_other (Cell j) Manifest (λ e. cc))
          ∙ at_other h.files Stage (Cell j) bytes (name_other (Cell j) Stage (λ e. cc))
          ∙ h.reads.cells j found (sym (get-insert keys_total s.cells k bytes j ∙ rw apart refl) ∙ at);
    }

pub drop_closing : {held held' : Option Files} {log log' : Option (List Change)} {o : Contents} (s : State) (k : CellKey) (text : List ℕ) (params : Params) (rows : List Summary) → HoldsState held o s → AreSound (after (DropCell k) s).cells
    → params ≡ s.params → rows ≡ summaries_of (after (DropCell k) s).cells
    → AllDone (Write Manifest text ∷ []) held log held' log' → Closing held' params rows k None (after (DropCell k) s)
drop_closing s k text params rows h sound p r done =
    record {
      files = insert h.files Manifest text;
      held_is = done.held ∙ ap (files_after (Write Manifest text ∷ [])) h.held_is;
      params_is = p;
      rows_is = r;
      sound = sound;
      cell_is = Rattle.std.specs.FinMap.get-remove keys_total s.cells k k ∙ rw (key_self k) refl;
      others = λ j found apart at.
          at_other h.files Manifest (Cell j) text (name_other (Cell j) Manifest (λ e. cc))
          ∙ h.reads.cells j found (sym (Rattle.std.specs.FinMap.get-remove keys_total s.cells k j ∙ rw apart refl) ∙ at);
    }

-- ---- the rows behind the edit, as the code has them

pub put_rows_are : {held : Option Files} {o : Contents} (s : State) (k : CellKey) (bytes : List ℕ) (row : Summary) (rows list : List Summary) → HoldsState held o s → row ≡ summary_of k bytes → rows ≡ o.rows → list ≡ with_row rows row → list ≡ summaries_of (after (PutCell k bytes) s).cells
put_rows_are s k bytes row rows list h is same made = made ∙ (λ i. with_row ((same ∙ h.rows_is) i) (is i)) ∙ put_summaries s.cells k bytes

pub drop_rows_are : {held : Option Files} {o : Contents} (s : State) (k : CellKey) (rows list : List Summary) → HoldsState held o s → rows ≡ o.rows → list ≡ without_row rows k → list ≡ summaries_of (after (DropCell k) s).cells
drop_rows_are s k rows list h same made = made ∙ ap (λ rs. without_row rs k) (same ∙ h.rows_is) ∙ drop_summaries s.cells k

pub sound_after : {held : Option Files} {o : Contents} (c : Edit) (s : State) → IsSoundEdit c → HasRoomFor c o.rows → HoldsState held o s → AreSound (after c s).cells
sound_after {o = o} c s sound room h = (state_after c s o.rows h.rows_is sound room h.reads.state).sound

-- ---- a command that was not refused

same_params : (c : Edit) (s : State) → (after c s).params ≡ s.params
same_params (PutCell k bytes) s = refl
same_params (DropCell k) s = refl

after_all : (c : Edit) (s : State) (files : Files) {held held' : Option Files} {log log' : Option (List Change)} → held ≡ Some files → AllDone (calls c s) held log held' log' → held' ≡ Some (all_changed (calls c s) files)
after_all c s files is d = d.held ∙ ap (files_after (calls c s)) is ∙ files_of_told (calls c s) files

holds_after : {T : Type 0} (c : Edit) (s : State) (o o' : Contents) (held held' : Option Files) {log log' : Option (List Change)} (result : Result T EngineAnswer) → IsState (after c s) → HoldsState held o s → Ran (calls c s) held log held' log' result
    → Turned c o o' result → OnOk result (HoldsState held' o' (after c s))
holds_after c s o o' held held' (Ok value) state h r turned = record {
  files = all_changed (calls c s) h.files;
  held_is = after_all c s h.files h.held_is r.ok;
  reads = edit_closed c s h.files state h.reads;
  params_is = ap (λ now. now.params) turned.ok ∙ h.params_is ∙ sym (same_params c s);
  rows_is = ap (λ now. now.rows) turned.ok ∙ rows_are_after c s o.rows h.rows_is;
}
holds_after c s o o' held held' (Err e) state h r turned = tt

reads_after : {T : Type 0} (c : Edit) (s : State) (o : Contents) (held held' : Option Files) {log log' : Option (List Change)} (result : Result T EngineAnswer) → IsState (after c s) → HoldsState held o s → Ran (calls c s) held log held' log' result
    → OnErr result (IfSome held' (ReadsAsOldOrNew c s))
reads_after c s o held held' (Ok value) state h r = tt
reads_after c s o held held' {log = log} {log' = log'} (Err e) state h r =
    any_stop (ReadsAsOldOrNew c s) (calls c s) h.files (subst (λ b. SomeDone (calls c s) b log held' log') h.held_is r.err) (edit_reads c s h.files state h.reads)

pub edit_ran : {T : Type 0} (c : Edit) (s : State) (o o' : Contents) (held held' : Option Files) {log log' : Option (List Change)} {work work' : ℕ} (result : Result T EngineAnswer) → IsSoundEdit c → HasRoomFor c o.rows → HoldsState held o s
    → Ran (calls c s) held log held' log' result → OnlyStops result → work' ≤ work + count_existing (after c s) (touched s.params.cap (key_of c).square) → Turned c o o' result
    → EditRan c s held held' log log' o' work work' result
edit_ran c s o o' held held' result sound room h ran stop few turned =
    let state = state_after c s o.rows h.rows_is sound room h.reads.state in
    record {
      ran = ran;
      holds = holds_after c s o o' held held' result state h ran turned;
      reads = reads_after c s o held held' result state h ran;
      stop = stop;
      few = few;
    }

-- a command that is refused by its rows is refused, one that is not does its edit
pub edited_ran : {T : Type 0} (c : Command) (s : State) (o o' : Contents) (held held' : Option Files) {log log' : Option (List Change)} {work work' : ℕ} (result : Result T EngineAnswer) → refusal_by_rows c o.rows ≡ None → HoldsState held o s
    → EditRan (edit_of c) s held held' log log' o' work work' result → Edited c s held held' log log' o' work work' result
edited_ran c s o o' held held' {log = log} {log' = log'} {work = work} {work' = work'} result none h ran =
    subst (λ refusal. EditedBy refusal (edit_of c) s held held' log log' o' work work' result) (sym none ∙ refusal_is c s o.rows h.rows_is) ran

pub edited_refused : {T : Type 0} (c : Command) (s : State) (o : Contents) (held : Option Files) (log : Option (List Change)) (work work' : ℕ) (answer : EngineAnswer) (result : Result T EngineAnswer) → refusal_by_rows c o.rows ≡ Some answer → result ≡ Err answer → HoldsState held o s
    → Edited c s held held log log o work work' result
edited_refused c s o held log work work' answer result refused answered h =
    subst (λ refusal. EditedBy refusal (edit_of c) s held held log log o work work' result) (sym refused ∙ refusal_is c s o.rows h.rows_is)
    (record { answered = answered; same_held = refl; same_log = refl; holds = h })

-- ---- over a store that stands for the state

pub edit_ends : {T : Type 0} (c : Edit) (s : State) (o o' : Contents) (held held' : Option Files) {log log' : Option (List Change)} (result : Result T EngineAnswer) → IsSoundEdit c → HasRoomFor c o.rows → Stands held o s
    → Ran (calls c s) held log held' log' result → Turned c o o' result → Ends c s held' o' result
edit_ends c s o o' held held' (Ok value) sound room st r turned =
    let h = st.holds in
    let state = state_after c s o.rows h.rows_is sound room h.reads.state in
    let now = all_changed (calls c s) h.files in
    let is = after_all c s h.files h.held_is r.ok in
    let ends = command_ends c s h.files state st.stands in
    let closed : StandsMarked now (after c s) Closed = closed_stands (after c s) now state (λ q e. ends.each q) in
    record {
      files = subst (λ held. IfSome held (λ files. AreFiles files (after c s))) (sym is) ends;
      stands = record {
        holds = record {
          files = now;
          held_is = is;
          reads = closed.reads;
          params_is = ap (λ now. now.params) turned.ok ∙ h.params_is ∙ sym (same_params c s);
          rows_is = ap (λ now. now.rows) turned.ok ∙ rows_are_after c s o.rows h.rows_is;
        };
        stands = closed;
      };
      err = tt;
    }
edit_ends c s o o' held held' {log = log} {log' = log'} (Err e) sound room st r turned =
    let h = st.holds in
    let state = state_after c s o.rows h.rows_is sound room h.reads.state in
    record {
      files = tt;
      stands = tt;
      err = any_stop (OldOrNew c s) (calls c s) h.files (subst (λ b. SomeDone (calls c s) b log held' log') h.held_is r.err) (command_stands c s h.files state st.stands);
    }
