-- What was under way can be finished, and what settling leaves.
use Rattle.std.proofs.Common.{◌≡◌, ℕ, true, not, is_some, cond, List, Option, Some, None, Result, Ok, Err, IfSome, refl, sym, ap, subst, ◌∙◌}
use Rattle.std.specs.FinMap.{get, contains_key-keys}
use Rattle.terrain_base.specs.declared.cell_key.CellKey.{CellKey}
use Rattle.cell_mosaic.specs.Summaries.{summaries_of}
use Rattle.db_engine.proofs.EditReads.{settles_closed}
use Rattle.db_manifest.specs.Manifest.{ManifestState}
use Rattle.manifest_lines.specs.declared.state.State.TheVariants.{Put, Drop, Rebuild}
use Rattle.terrain_base.specs.declared.name.Key.{Key}
use Rattle.terrain_base.specs.declared.name.Key.TheVariants.{Stage, Cell}
use Rattle.terrain_base.specs.declared.params.Params.{Params}
use Rattle.terrain_base.specs.declared.summary.Summary.{Summary}
use Rattle.terrain_base.specs.declared.store.Change.{Change}
use Rattle.terrain_base.specs.Step.{Files, items_of}
use Rattle.std.specs.Prelude.{Vec}
use Rattle.std.specs.declared.alloc.Global.{Global}
use Rattle.terrain_base.specs.Run.{AllDone, SomeDone, Ran, files_after}
use Rattle.terrain_base.specs.Overwrite.{all_changed}
use Rattle.database.specs.Commands.{settling}
use Rattle.database.specs.State.{State, AreFiles, ReadsAs, ReadsFor, StandsMarked, StandsFor, kept_under, settled}
use Rattle.terrain_base.proofs.Overwrites.{files_of_told}
use Rattle.terrain_base.proofs.Runs.{both_done, goes_on, quiet, all_as, some_as}
use Rattle.terrain_base.proofs.Stops.{any_stop}
use Rattle.database.proofs.Settled.{settling_fronts, settling_files, settling_leaves, settling_reads}
use Rattle.database.proofs.Tests.{key_self}
use Rattle.database.specs.Answer.{IsStop}
use Rattle.database.specs.Opening as opens
use Rattle.database.specs.Opening.{OpensAs}
use Rattle.database.proofs.Openings.{of_state, not_old, not_refused, one_opening}
use Rattle.db_files.specs.Serving.{Closing, Filling}
use Rattle.db_reading.specs.Found.{Known, Found, IsToldBy}
use Rattle.db_engine.specs.Settling.{Staged, Settles, LeavesSettled, IsOpened, IsRefusal, IsLeft, IsIdle}
use Rattle.database.specs.declared.answer.EngineAnswer.{EngineAnswer}
use Rattle.database.specs.declared.answer.EngineAnswer.TheVariants as answer
use Rattle.db_engine.specs.Opened.{Contents}
use Rattle.db_reading.specs.declared.reading.Reading.{Reading}

-- ---- the bytes that are staged

stage_is : (k : CellKey) → kept_under (Put k) k ≡ Stage
stage_is k = ap (λ b. cond b Stage (Cell k)) (key_self k)

staged_cell : (s : State) (files : Files) (k : CellKey) (found : Option (List ℕ)) → get s.cells k ≡ found → is_some found ≡ true → ReadsAs files s (Put k) → get files Stage ≡ found
staged_cell s files k None at fit r = absurd (cc)
staged_cell s files k (Some bytes) at fit r = sym (ap (get files) (stage_is k)) ∙ r.cells k bytes at

-- what is staged is the cell
pub stage_held : {held : Option Files} {params : Params} {rows : List Summary} {k : CellKey} {s : State} (st : Staged held params rows k s) → get st.files Stage ≡ get s.cells k
stage_held {k = k} {s = s} st = staged_cell s st.files k (get s.cells k) refl (contains_key-keys s.cells k ∙ st.reads.fit) st.reads

pub staged_closing : (held held' : Option Files) (params : Params) (rows : List Summary) (k : CellKey) (s : State) (bytes : Option (List ℕ)) (st : Staged held params rows k s) → held' ≡ held → bytes ≡ get st.files Stage → Closing held' params rows k bytes s
staged_closing held held' params rows k s bytes st same is = record {
  files = st.files;
  held_is = same ∙ st.held_is;
  params_is = st.params_is;
  rows_is = st.rows_is;
  sound = st.reads.state.sound;
  cell_is = sym (is ∙ stage_held st);
  others = λ j found apart at. sym (ap (λ b. get st.files (cond b Stage (Cell j))) apart) ∙ st.reads.cells j found at;
}

lost_of : (found : Option (List ℕ)) → is_some found ≡ true → found ≡ None → ⊥
lost_of None fit none = absurd (cc)
lost_of (Some bytes) fit none = absurd (cc)

-- the stage is held
pub not_lost : {held : Option Files} {params : Params} {rows : List Summary} {k : CellKey} {s : State} (st : Staged held params rows k s) → get st.files Stage ≡ None → ⊥
not_lost {k = k} {s = s} st none = lost_of (get s.cells k) (contains_key-keys s.cells k ∙ st.reads.fit) (sym (stage_held st) ∙ none)

-- ---- for each mark

pub put_known : (held : Option Files) (r : Reading) (s : State) (k : CellKey) (params : Params) (rows : List Summary) → r.mark ≡ Put k → Known held r s → params ≡ r.params → rows ≡ r.rows.items → Staged held params rows k s
put_known held r s k params rows mark known p q = record {
  files = known.files;
  held_is = known.held_is;
  params_is = p ∙ known.params_is;
  rows_is = q ∙ known.rows_is;
  reads = subst (λ m. ReadsAs known.files s m) mark known.reads;
}

gone : (found : Option (List ℕ)) → not (is_some found) ≡ true → found ≡ None
gone None e = refl
gone (Some bytes) e = absurd (cc)

pub drop_known : (held : Option Files) (r : Reading) (s : State) (k : CellKey) (params : Params) (rows : List Summary) → r.mark ≡ Drop k → Known held r s → params ≡ r.params → rows ≡ r.rows.items → Closing held params rows k None s
drop_known held r s k params rows mark known p q =
    let reads = subst (λ m. ReadsAs known.files s m) mark known.reads in
    record {
      files = known.files;
      held_is = known.held_is;
      params_is = p ∙ known.params_is;
      rows_is = q ∙ known.rows_is;
      sound = reads.state.sound;
      cell_is = gone (get s.cells k) (ap not (contains_key-keys s.cells k) ∙ reads.fit);
      others = λ j found apart at. reads.cells j found at;
    }

pub rebuild_known : (held : Option Files) (r : Reading) (s : State) (params : Params) (rows : List Summary) → r.mark ≡ Rebuild → (known : Known held r s) → params ≡ r.params → rows ≡ r.rows.items → Filling held params rows known.files s
rebuild_known held r s params rows mark known p q =
    let reads = subst (λ m. ReadsAs known.files s m) mark known.reads in
    record {
      held_is = known.held_is;
      params_is = p ∙ known.params_is;
      rows_is = q ∙ known.rows_is;
      cells = record { sound = reads.state.sound; named = λ k bytes at. reads.cells k bytes at };
    }

-- ---- settling whole

abbrev pub known_of : (files : Files) (r : Reading) (s : State) (m : ManifestState) (held : Option Files) → held ≡ Some files → Found files r → ReadsAs files s m → Known held r s
known_of files r s m held is found reads =
    let same = found.only s m reads in
    record {
      files = files;
      held_is = is;
      reads = subst (λ k. ReadsAs files s k) same.1 reads;
      params_is = found.known.params_is ∙ ap (λ t. t.params) (sym same.0);
      rows_is = found.known.rows_is ∙ ap (λ t. summaries_of t.cells) (sym same.0);
    }

same_files : (files : Files) (r : Reading) (found : Found files r) → found.known.files ≡ files
same_files files r found = let e : Some files ≡ Some found.known.files = found.known.held_is in let same : files ≡ found.known.files = cc in sym same

pub opened_reads : (files : Files) (r : Reading) (found : Found files r) → ReadsAs files found.state r.mark
opened_reads files r found = subst (λ f. ReadsAs f found.state r.mark) (same_files files r found) found.known.reads

pub opened_of : (files : Files) (held held' : Option Files) (log log' : Option (List Change)) (r : Reading) (o : Contents) (found : Found files r) → held ≡ Some files → AllDone (settling r.mark files found.state) held log held' log' → o.params ≡ r.params → o.rows ≡ r.rows.items → IsOpened files held' o
opened_of files held held' log log' r o found is done p q =
    let reads = opened_reads files r found in
    let s = found.state in
    record {
      state = s;
      mark = r.mark;
      reads = reads;
      holds = record {
        files = all_changed (settling r.mark files s) files;
        held_is = done.held ∙ ap (files_after (settling r.mark files s)) is ∙ files_of_told (settling r.mark files s) files;
        reads = settles_closed r.mark s files reads;
        params_is = p ∙ found.known.params_is;
        rows_is = q ∙ found.known.rows_is;
      };
    }

pub settles_of : {T E : Type 0} (s : State) (files : Files) (m : ManifestState) {log log' : Option (List Change)} {before held : Option Files} (result : Result T E) → before ≡ Some files → StandsMarked files s m → Ran (settling m files s) before log held log' result → Settles s held result
settles_of s files m {log = log} {log' = log'} {held = held} (Ok value) is st r = record {
  ok = subst (λ o. IfSome o (λ f. AreFiles f s)) (sym (r.ok.held ∙ ap (files_after (settling m files s)) is ∙ files_of_told (settling m files s) files)) (settling_files m s files st);
  err = tt;
}
settles_of s files m {log = log} {log' = log'} {held = held} (Err e) is st r = record {
  ok = tt;
  err = any_stop (λ f. StandsFor f s) (settling m files s) files (subst (λ b. SomeDone (settling m files s) b log held log') is r.err) (settling_fronts m s files st);
}

pub leaves_of : {T E : Type 0} (s : State) (files : Files) (m : ManifestState) {log log' : Option (List Change)} {before held : Option Files} (result : Result T E) → before ≡ Some files → ReadsAs files s m → Ran (settling m files s) before log held log' result → LeavesSettled m s files held result
leaves_of s files m {log = log} {log' = log'} {held = held} (Ok value) is reads r = record {
  ok = subst (λ o. IfSome o (λ after. (name : Key) → get after name ≡ settled m s files name)) (sym (r.ok.held ∙ ap (files_after (settling m files s)) is ∙ files_of_told (settling m files s) files)) (settling_leaves m s files reads);
  err = tt;
}
leaves_of s files m {log = log} {log' = log'} {held = held} (Err e) is reads r = record {
  ok = tt;
  err = any_stop (λ f. ReadsFor f s) (settling m files s) files (subst (λ b. SomeDone (settling m files s) b log held log') is r.err) (settling_reads m s files reads);
}

-- ---- refusals

pub refusal_told : (a : EngineAnswer) (files : Files) (held : Option Files) (log log' : Option (List Change)) (work work' : ℕ) → IsToldBy files a → IsIdle files held log log' work work' → IsRefusal a files held log log' work work'
refusal_told (answer.CellPresent square level) files held log log' work work' t idle = t
refusal_told (answer.CellAbsent square level) files held log log' work work' t idle = t
refusal_told answer.DatabaseFull files held log log' work work' t idle = t
refusal_told (answer.NotEmpty name) files held log log' work work' t idle = t
refusal_told (answer.NotADatabase line) files held log log' work work' t idle = (t, idle)
refusal_told (answer.Trouble trouble) files held log log' work work' t idle = (t, idle)
refusal_told (answer.NoTile tile) files held log log' work work' t idle = t
refusal_told (answer.TileLost name) files held log log' work work' t idle = t
refusal_told (answer.OldVersion version) files held log log' work work' t idle = (t, idle)
refusal_told (answer.NotOld version) files held log log' work work' t idle = t
refusal_told answer.StoreFault files held log log' work work' t idle = tt
refusal_told answer.NoMemory files held log log' work work' t idle = tt

pub refusal_stop : (a : EngineAnswer) (files : Files) (held : Option Files) (log log' : Option (List Change)) (work work' : ℕ) → IsStop a → IsRefusal a files held log log' work work'
refusal_stop (answer.CellPresent square level) files held log log' work work' t = absurd t
refusal_stop (answer.CellAbsent square level) files held log log' work work' t = absurd t
refusal_stop answer.DatabaseFull files held log log' work work' t = absurd t
refusal_stop (answer.NotEmpty name) files held log log' work work' t = absurd t
refusal_stop (answer.NotADatabase line) files held log log' work work' t = absurd t
refusal_stop (answer.Trouble trouble) files held log log' work work' t = absurd t
refusal_stop (answer.NoTile tile) files held log log' work work' t = absurd t
refusal_stop (answer.TileLost name) files held log log' work work' t = absurd t
refusal_stop (answer.OldVersion version) files held log log' work work' t = absurd t
refusal_stop (answer.NotOld version) files held log log' work work' t = absurd t
refusal_stop answer.StoreFault files held log log' work work' t = tt
refusal_stop answer.NoMemory files held log log' work work' t = tt

-- nothing was changed yet
pub left_idle : (o : opens.Opening) (files : Files) (held : Option Files) (log log' : Option (List Change)) (work work' : ℕ) → IsIdle files held log log' work work' → IsLeft o files held log log' work work'
left_idle (opens.Opens s mark) files held log log' work work' idle = tt
left_idle (opens.OldVersion version) files held log log' work work' idle = idle
left_idle (opens.NotADatabase line) files held log log' work work' idle = idle
left_idle (opens.InTrouble trouble) files held log log' work work' idle = idle

-- files that read as a state open as no other
pub left_read : (o : opens.Opening) (files : Files) (s : State) (mark : ManifestState) (held : Option Files) (log log' : Option (List Change)) (work work' : ℕ) → ReadsAs files s mark → OpensAs files o → IsLeft o files held log log' work work'
left_read (opens.Opens t other) files s mark held log log' work work' reads o = tt
left_read (opens.OldVersion version) files s mark held log log' work work' reads o = absurd (not_old version (of_state reads) o)
left_read (opens.NotADatabase line) files s mark held log log' work work' reads o = absurd (not_refused line (of_state reads) o)
left_read (opens.InTrouble trouble) files s mark held log log' work work' reads o = absurd (cc (one_opening files (opens.Opens s mark) (opens.InTrouble trouble) reads o))

-- ---- behind the reading

pub done_as : (files : Files) (s : State) {m k : ManifestState} {f : Option Files} {l : Option (List Change)} {mid : Option Files} {mid_log : Option (List Change)} {f' : Option Files} {l' : Option (List Change)}
    → m ≡ k → mid ≡ f → mid_log ≡ l → AllDone (settling k files s) mid mid_log f' l' → AllDone (settling m files s) f l f' l'
done_as files s mark held logged d = all_as (ap (λ x. settling x files s) (sym mark)) (both_done (quiet held logged) d)

pub stopped_as : (files : Files) (s : State) {m k : ManifestState} {f : Option Files} {l : Option (List Change)} {mid : Option Files} {mid_log : Option (List Change)} {f' : Option Files} {l' : Option (List Change)}
    → m ≡ k → mid ≡ f → mid_log ≡ l → SomeDone (settling k files s) mid mid_log f' l' → SomeDone (settling m files s) f l f' l'
stopped_as files s mark held logged d = some_as (ap (λ x. settling x files s) (sym mark)) (goes_on (quiet held logged) d)

-- what was found under the name
pub found_is : (held : Option Files) (files : Files) (name : Key) (found : Option (Vec ℕ Global)) → held ≡ Some files → IfSome held (λ files. items_of found ≡ get files name) → items_of found ≡ get files name
found_is held files name found is h = subst (λ o. IfSome o (λ files. items_of found ≡ get files name)) is h

pub ran_mark : {T E : Type 0} (files : Files) (s : State) {m k : ManifestState} {f : Option Files} {l : Option (List Change)} {f' : Option Files} {l' : Option (List Change)} {result : Result T E} → m ≡ k → Ran (settling m files s) f l f' l' result → Ran (settling k files s) f l f' l' result
ran_mark files s {f = f} {l = l} {f' = f'} {l' = l'} {result = result} e r = subst (λ x. Ran (settling x files s) f l f' l' result) e r

pub known_held : (held : Option Files) (files : Files) (r : Reading) {s : State} → held ≡ Some files → Known (Some files) r s → Known held r s
known_held held files r {s = s} is known = subst (λ h. Known h r s) (sym is) known
