-- A database that is begun is kept, and what is told of one at the end of a trial.
use Rattle.std.proofs.Common.{◌≡◌, ℕ, ◌⊎◌, inl, inr, true, zero, List, [], map, Option, Some, Result, Ok, Err, IfOk, IfErr, IfSome, IsErrOf, refl, sym, ap, subst, ◌∙◌, arith}
use Rattle.std.specs.Prelude.{slice_get}
use Rattle.std.specs.FinMap.{empty, keys}
use Rattle.manifest_lines.specs.declared.state.State.TheVariants.{Closed}
use Rattle.terrain_base.specs.Cause.{Rose}
use Rattle.terrain_base.specs.declared.name.Key.{Key}
use Rattle.terrain_base.specs.declared.params.Params.{Params}
use Rattle.terrain_base.specs.declared.store.Change.{Change}
use Rattle.terrain_base.specs.Name.{by_text}
use Rattle.terrain_base.specs.Overwrite.{all_changed}
use Rattle.terrain_base.specs.Run.{AllDone, Ran}
use Rattle.terrain_base.specs.Step.{Files}
use Rattle.terrain_base.proofs.Overwrites.{files_of_told}
use Rattle.database.specs.declared.answer.EngineAnswer.{EngineAnswer}
use Rattle.database.specs.declared.answer.EngineAnswer.TheVariants.{CellPresent, CellAbsent, DatabaseFull, NotEmpty, NotADatabase, Trouble, NoTile, TileLost, OldVersion, NotOld, StoreFault, NoMemory}
use Rattle.database.specs.Answer.{IsStop, OnlyStops}
use Rattle.database.specs.Commands.{rebuild_calls}
use Rattle.database.specs.State.{State, AreFiles, StandsMarked}
use Rattle.db_engine.specs.Holding.{IsFull, Starts, no_cells}
use Rattle.db_engine.specs.Opened.{Contents, contents_of}
use Rattle.db_engine.proofs.Starts.{no_rows}
use Rattle.db_trial.specs.Step.{Keeps}
use Rattle.db_trial.specs.Trial.{IsTotal, bytes_in}
use Rattle.db_trial.proofs.Additions.{no_entries}

pub no_keys : keys (empty {X = List ℕ} {R = by_text}) ≡ []
no_keys = ap (map (λ (e : Key × List ℕ). e.0)) (no_entries by_text)

pub begun : {held : Option Files} {o : Contents} {log log' : Option (List Change)} (params : Params) → o ≡ contents_of params [] true
    → AllDone (rebuild_calls empty (no_cells params)) (Some empty) log held log'
    → IfSome held (λ files. AreFiles files (no_cells params) × StandsMarked files (no_cells params) Closed)
    → Keeps held o (no_cells params)
begun {held} params opened done stands =
    let s = no_cells params in
    let now = all_changed (rebuild_calls empty s) empty in
    let is : held ≡ Some now = done.held ∙ files_of_told (rebuild_calls empty s) empty in
    let both : AreFiles now s × StandsMarked now s Closed = subst (λ h. IfSome h (λ files. AreFiles files s × StandsMarked files s Closed)) is stands in
    record {
      stands = record {
        holds = record {
          files = now;
          held_is = is;
          reads = both.1.reads;
          params_is = ap (λ now. now.params) opened;
          rows_is = ap (λ now. now.rows) opened ∙ sym (no_rows params);
        };
        stands = both.1;
      };
      files = subst (λ h. IfSome h (λ files. AreFiles files s)) (sym is) both.0;
      live = ap (λ now. now.live) opened;
    }

-- over a store that holds nothing a beginning is not refused
no_first : (ks : List Key) (name : Key) → ks ≡ [] → slice_get ks zero ≡ Some name → ⊥
no_first ks name none first = let other : slice_get [] zero ≡ Some name = ap (λ list. slice_get list zero) (sym none) ∙ first in absurd (cc)

pub full_is_stop : (a : EngineAnswer) (files : Files) (held : Option Files) (log log' : Option (List Change)) → keys files ≡ [] → IsFull a files held log log' → IsStop a
full_is_stop (CellPresent square level) files held log log' none full = full
full_is_stop (CellAbsent square level) files held log log' none full = full
full_is_stop DatabaseFull files held log log' none full = full
full_is_stop (NotEmpty name) files held log log' none full = absurd (no_first (keys files) name none full.0)
full_is_stop (NotADatabase line) files held log log' none full = full
full_is_stop (Trouble trouble) files held log log' none full = full
full_is_stop (NoTile tile) files held log log' none full = full
full_is_stop (TileLost name) files held log log' none full = full
full_is_stop (OldVersion version) files held log log' none full = full
full_is_stop (NotOld version) files held log log' none full = full
full_is_stop StoreFault files held log log' none full = tt
full_is_stop NoMemory files held log log' none full = tt

pub begin_stops : {T : Type 0} {start : Option Files} (held : Option Files) (log log' : Option (List Change)) (result : Result T EngineAnswer) → start ≡ Some empty
    → IfErr result (λ answer. (files : Files) → start ≡ Some files → IsFull answer files held log log') → OnlyStops result
begin_stops held log log' (Ok value) is refused = tt
begin_stops held log log' (Err a) is refused = full_is_stop a empty held log log' no_keys (refused empty is)

pub begin_keeps : {E : Type 0} {start held : Option Files} {log log' : Option (List Change)} (params : Params) (result : Result Contents E) → start ≡ Some empty
    → IfOk result (λ o. o ≡ contents_of params [] true) → Ran (rebuild_calls empty (no_cells params)) start log held log' result
    → Starts (no_cells params) held result → IfOk result (λ o. Keeps held o (no_cells params))
begin_keeps {held = held} {log = log} {log' = log'} params (Ok o) is opened ran starts =
    begun {log = log} {log' = log'} params opened (subst (λ h. AllDone (rebuild_calls empty (no_cells params)) h log held log') is ran.ok) starts.ok
begin_keeps params (Err e) is opened ran starts = tt

-- ---- totals

pub total_of : {held : Option Files} {o : Contents} {s : State} {total : ℕ} → Keeps held o s → ((files : Files) → held ≡ Some files → total ≡ bytes_in files) → IsTotal s total
total_of {s = s} keeps told = record {
  files = keeps.stands.holds.files;
  are = subst (λ h. IfSome h (λ files. AreFiles files s)) keeps.stands.holds.held_is keeps.files;
  total_is = told keeps.stands.holds.files keeps.stands.holds.held_is;
}

-- ---- a store that counts no fault

never : {A : Type 0} → Rose 0 0 → A
never (inl less) = absurd (omega arith)
never (inr same) = absurd (omega arith)

only_by : (a : EngineAnswer) → IsStop a → (a ≡ StoreFault → Rose 0 0 ⊎ Rose 0 0) → a ≡ NoMemory
only_by (CellPresent square level) stop cause = absurd stop
only_by (CellAbsent square level) stop cause = absurd stop
only_by DatabaseFull stop cause = absurd stop
only_by (NotEmpty name) stop cause = absurd stop
only_by (NotADatabase line) stop cause = absurd stop
only_by (Trouble trouble) stop cause = absurd stop
only_by (NoTile tile) stop cause = absurd stop
only_by (TileLost name) stop cause = absurd stop
only_by (OldVersion version) stop cause = absurd stop
only_by (NotOld version) stop cause = absurd stop
only_by StoreFault stop cause = elim (cause refl) [ inl rose ↦ never rose | inr rose ↦ never rose ]
only_by NoMemory stop cause = refl

pub only_memory : {T : Type 0} (result : Result T EngineAnswer) → OnlyStops result → (IsErrOf result StoreFault → Rose 0 0 ⊎ Rose 0 0) → IfErr result (λ a. a ≡ NoMemory)
only_memory (Ok value) stops cause = tt
only_memory (Err a) stops cause = only_by a stops (λ is. cause (ap Err is))
