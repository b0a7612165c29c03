-- What a rebuilding and a beginning leave.
use Rattle.std.proofs.Common.{◌≡◌, ℕ, ◌≤◌, List, [], length, get_or, Option, Some, None, Result, Ok, Err, OnOk, IfSome, refl, sym, ap, subst, ◌∙◌, ◌⊎◌, inl, inr, ⊎_elim}
use Rattle.std.specs.Prelude.{slice_get, IsErrAnd}
use Rattle.std.specs.FinMap.{get, keys, empty, get-empty, entries, len, len-empty, len-entries}
use Rattle.std.proofs.lemmas.List.{nil_from_length}
use Rattle.terrain_base.specs.declared.cell_key.CellKey.{CellKey}
use Rattle.manifest_lines.specs.declared.state.State.TheVariants.{Closed}
use Rattle.terrain_base.specs.declared.params.Params.{Params}
use Rattle.terrain_base.specs.declared.summary.Summary.{Summary}
use Rattle.terrain_base.specs.declared.store.Change.{Change}
use Rattle.cell_mosaic.specs.Summaries.{summaries_of, summary_of}
use Rattle.terrain_base.specs.CellKey.{key_cmp}
use Rattle.database.specs.Commands.{rebuild_calls}
use Rattle.terrain_base.specs.Overwrite.{all_changed}
use Rattle.terrain_base.specs.Run.{AllDone, SomeDone, Ran, files_after}
use Rattle.database.specs.State.{State, AreFiles, ReadsAs, ReadsFor, StandsMarked, StandsFor}
use Rattle.terrain_base.specs.Step.{Files}
use Rattle.terrain_base.proofs.Overwrites.{files_of_told}
use Rattle.database.proofs.Starting.{HasAll, calls_end, calls_stand, files_stand}
use Rattle.terrain_base.proofs.Stops.{any_stop}
use Rattle.db_files.specs.Serving.{Filling}
use Rattle.database.specs.Answer.{IsStop}
use Rattle.database.specs.declared.answer.EngineAnswer.{EngineAnswer}
use Rattle.database.specs.declared.answer.EngineAnswer.TheVariants as answer
use Rattle.db_engine.specs.Holding.{HoldsState, Stands, no_cells, Starts, IsFull}
use Rattle.db_engine.specs.Settling.{Settles, Rebuilds}
use Rattle.db_engine.specs.Opened.{Contents}

pub has_all : {files : Files} {s : State} → ReadsAs files s Closed → HasAll files s
has_all r = record { state = r.state; cells = λ k bytes at. r.cells k bytes at }

pub holds_filling : {held : Option Files} {o : Contents} {s : State} (params : Params) (rows : List Summary) (h : HoldsState held o s) → params ≡ o.params → rows ≡ o.rows → Filling held params rows h.files s
holds_filling params rows h p q = record { held_is = h.held_is; params_is = p ∙ h.params_is; rows_is = q ∙ h.rows_is; cells = record { sound = h.reads.state.sound; named = λ k bytes at. h.reads.cells k bytes at } }

after_all : (files : Files) (s : State) {before held : Option Files} {log log' : Option (List Change)} → before ≡ Some files → AllDone (rebuild_calls files s) before log held log' → held ≡ Some (all_changed (rebuild_calls files s) files)
after_all files s is d = d.held ∙ ap (files_after (rebuild_calls files s)) is ∙ files_of_told (rebuild_calls files s) files

pub stands_after : {held held' : Option Files} {o o' : Contents} {s : State} {log log' : Option (List Change)} (h : HoldsState held o s) → o'.params ≡ o.params → o'.rows ≡ o.rows → AllDone (rebuild_calls h.files s) held log held' log' → Stands held' o' s
stands_after {s = s} h p q d =
    let now = all_changed (rebuild_calls h.files s) h.files in
    let stands = files_stand s now h.reads.state (calls_end s h.files (has_all h.reads)) in
    record {
      holds = record { files = now; held_is = after_all h.files s h.held_is d; reads = stands.reads; params_is = p ∙ h.params_is; rows_is = q ∙ h.rows_is };
      stands = stands;
    }

either_stands : {files now : Files} {s : State} → StandsMarked files s Closed → (now ≡ files) ⊎ StandsFor now s → StandsFor now s
either_stands {s = s} st (inl same) = record { mark = Closed; stands = subst (λ f. StandsMarked f s Closed) (sym same) st }
either_stands st (inr now) = now

pub rebuilt : {T E : Type 0} {held held' : Option Files} {o : Contents} {s : State} {log log' : Option (List Change)} (result : Result T E) (st : Stands held o s) → Ran (rebuild_calls st.holds.files s) held log held' log' result → Settles s held' result
rebuilt {s = s} (Ok value) st r = record {
  ok = subst (λ o. IfSome o (λ f. AreFiles f s)) (sym (after_all st.holds.files s st.holds.held_is r.ok)) (calls_end s st.holds.files (has_all st.holds.reads));
  err = tt;
}
rebuilt {held' = held'} {s = s} {log = log} {log' = log'} (Err e) st r = record {
  ok = tt;
  err = any_stop (λ f. StandsFor f s) (rebuild_calls st.holds.files s) st.holds.files (subst (λ b. SomeDone (rebuild_calls st.holds.files s) b log held' log') st.holds.held_is r.err)
      (λ n le. either_stands st.stands (calls_stand s st.holds.files (has_all st.holds.reads) n le));
}

reads_now : {files now : Files} {s : State} → ReadsAs files s Closed → (now ≡ files) ⊎ StandsFor now s → ReadsFor now s
reads_now {s = s} r (inl same) = record { mark = Closed; reads = subst (λ f. ReadsAs f s Closed) (sym same) r }
reads_now r (inr st) = record { mark = st.mark; reads = st.stands.reads }

pub rebuilds_of : {T E : Type 0} {held held' : Option Files} {o o' : Contents} {s : State} {log log' : Option (List Change)} (result : Result T E) (h : HoldsState held o s) → OnOk result (o' ≡ o) → Ran (rebuild_calls h.files s) held log held' log' result → Rebuilds s held' o' result
rebuilds_of (Ok value) h same r = record { ok = stands_after h (ap (λ now. now.params) same) (ap (λ now. now.rows) same) r.ok; err = tt }
rebuilds_of {held' = held'} {s = s} {log = log} {log' = log'} (Err e) h same r = record {
  ok = tt;
  err = any_stop (λ f. ReadsFor f s) (rebuild_calls h.files s) h.files (subst (λ b. SomeDone (rebuild_calls h.files s) b log held' log') h.held_is r.err)
      (λ n le. reads_now h.reads (calls_stand s h.files (has_all h.reads) n le));
}

pub rebuilds_stop : {T E : Type 0} {held held' : Option Files} {o o' : Contents} {s : State} {log log' : Option (List Change)} (result : Result T E) (Q : E → Type 0) → IsErrAnd result Q → (h : HoldsState held o s) → SomeDone (rebuild_calls h.files s) held log held' log' → Rebuilds s held' o' result
rebuilds_stop (Ok value) Q is h d = absurd is
rebuilds_stop {held' = held'} {s = s} {log = log} {log' = log'} (Err e) Q is h d = record {
  ok = tt;
  err = any_stop (λ f. ReadsFor f s) (rebuild_calls h.files s) h.files (subst (λ b. SomeDone (rebuild_calls h.files s) b log held' log') h.held_is d)
      (λ n le. reads_now h.reads (calls_stand s h.files (has_all h.reads) n le));
}

-- ---- no cells

none_entries : entries (empty {X = List ℕ} {R = key_cmp}) ≡ []
none_entries = nil_from_length _ (sym (len-entries (empty {X = List ℕ} {R = key_cmp})) ∙ len-empty key_cmp (List ℕ))

pub no_rows : (params : Params) → summaries_of (no_cells params).cells ≡ []
no_rows params = ap (Rattle.std.specs.Prelude.map (λ (e : CellKey × List ℕ). summary_of e.0 e.1)) none_entries

pub no_state : (params : Params) (files : Files) → HasAll files (no_cells params)
no_state params files = record {
  state = record {
    few = subst (λ ks. length ks ≤ 4096) (sym (ap (Rattle.std.specs.Prelude.map (λ (e : CellKey × List ℕ). e.0)) none_entries)) (omega Rattle.std.proofs.Common.arith);
    sound = λ k bytes at. absurd (let e = get-empty {X = List ℕ} key_cmp k in cc);
  };
  cells = λ k bytes at. absurd (let e = get-empty {X = List ℕ} key_cmp k in cc);
}

pub none_filling : (held : Option Files) (params : Params) (rows : List Summary) (files : Files) → held ≡ Some files → rows ≡ [] → Filling held params rows files (no_cells params)
none_filling held params rows files is none = record { held_is = is; params_is = refl; rows_is = none ∙ sym (no_rows params); cells = record { sound = (no_state params files).state.sound; named = λ k bytes at. (no_state params files).cells k bytes at } }

either_starts : {files now : Files} {s : State} → keys files ≡ [] → (now ≡ files) ⊎ StandsFor now s → (keys now ≡ []) ⊎ StandsFor now s
either_starts none (inl same) = inl (ap keys same ∙ none)
either_starts none (inr now) = inr now

pub started : {T E : Type 0} {held held' : Option Files} {log log' : Option (List Change)} (params : Params) (files : Files) (result : Result T E) → held ≡ Some files → keys files ≡ [] → Ran (rebuild_calls files (no_cells params)) held log held' log' result → Starts (no_cells params) held' result
started params files (Ok value) is none r = record {
  ok =
      let now = all_changed (rebuild_calls files (no_cells params)) files in
      let ends = calls_end (no_cells params) files (no_state params files) in
      subst (λ o. IfSome o (λ f. AreFiles f (no_cells params) × StandsMarked f (no_cells params) Closed)) (sym (after_all files (no_cells params) is r.ok)) (ends, files_stand (no_cells params) now (no_state params files).state ends);
  err = tt;
}
started {held' = held'} {log = log} {log' = log'} params files (Err e) is none r = record {
  ok = tt;
  err = any_stop (λ f. (keys f ≡ []) ⊎ StandsFor f (no_cells params)) (rebuild_calls files (no_cells params)) files (subst (λ b. SomeDone (rebuild_calls files (no_cells params)) b log held' log') is r.err)
      (λ n le. either_starts none (calls_stand (no_cells params) files (no_state params files) n le));
}

pub full_stop : (a : EngineAnswer) (files : Files) (held : Option Files) (log log' : Option (List Change)) → IsStop a → IsFull a files held log log'
full_stop (answer.CellPresent square level) files held log log' t = t
full_stop (answer.CellAbsent square level) files held log log' t = t
full_stop answer.DatabaseFull files held log log' t = t
full_stop (answer.NotEmpty name) files held log log' t = absurd t
full_stop (answer.NotADatabase line) files held log log' t = t
full_stop (answer.Trouble trouble) files held log log' t = t
full_stop (answer.NoTile tile) files held log log' t = t
full_stop (answer.TileLost name) files held log log' t = t
full_stop (answer.OldVersion version) files held log log' t = t
full_stop (answer.NotOld version) files held log log' t = t
full_stop answer.StoreFault files held log log' t = tt
full_stop answer.NoMemory files held log log' t = tt
