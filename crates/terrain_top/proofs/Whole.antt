-- How a database begins, is made anew, and is edited.
use Rattle.std.proofs.Common.{◌≡◌, ℕ, zero, ◌+◌, ◌≤◌, List, [], ◌∷◌, Option, Some, Result, Ok, Err, IfErr, IfOk, sym, ap, subst, ◌∙◌, arith}
use Rattle.std.specs.Prelude.{◌≢◌, slice_get}
use Rattle.database.specs.Answer.{IsStop}
use Rattle.std.specs.FinMap.{keys}
use Rattle.terrain_base.specs.declared.name.Key.{Key}
use Rattle.terrain_base.specs.declared.params.Params.{Params}
use Rattle.terrain_base.specs.declared.store.Change.{Change}
use Rattle.terrain_base.specs.Run.{AllDone, SomeDone}
use Rattle.terrain_base.specs.Step.{Files}
use Rattle.terrain_base.proofs.Runs.{all_some, not_yet, quiet}
use Rattle.database.specs.declared.answer.EngineAnswer.{EngineAnswer}
use Rattle.database.specs.declared.answer.EngineAnswer.TheVariants as answer
use Rattle.database.specs.Commands.{existing, rebuild_calls}
use Rattle.database.specs.State.{State}
use Rattle.db_files.specs.Serving.{count_existing}
use Rattle.db_engine.specs.Holding.{HoldsState, IsFull, no_cells}
use Rattle.db_engine.specs.Opened.{Contents}
use Rattle.db_engine.specs.Settling.{IsIdle}
use Rattle.db_report.specs.Done.{created_line_of, rebuilt_line_of}
use Rattle.top_reply.specs.declared.stop.Stop.{Stop}
use Rattle.top_reply.specs.Database.{init_by, rebuilt_course}
use Rattle.top_reply.specs.Edits.{EditReply, edit_course, tiles_in}
use Rattle.top_reply.specs.Reply.{cause_of, done_reply, refused_reply}
use Rattle.terrain_top.specs.declared.answer.Answer.{Answer}
use Rattle.terrain_top.specs.EditGoes.{EditGoes, tiles_of}
use Rattle.terrain_top.specs.Effects.{OnlyMemory, StopsBy}
use Rattle.terrain_top.specs.Says.{IsTold, Says}
use Rattle.terrain_top.specs.Turns.{TurnOf}
use Rattle.terrain_top.proofs.EditsGo.{at_memory, at_stop, some_cause, some_line, stop_untold, tiles_are}

-- ---- a database begins

module _ (params : Params) (files : Files) (held held' : Option Files) (log log' : Option (List Change)) (work work' : ℕ) where
  made : (result : Result Answer Stop) → AllDone (rebuild_calls files (no_cells params)) held log held' log'
      → work' ≤ work + count_existing (no_cells params) (existing (no_cells params))
      → IfOk result (Says (done_reply (created_line_of params))) → OnlyMemory result
      → TurnOf (init_by params files []) held held' log log' work work' result
  made (Ok a) done few says memory = record {
    status_is = says.status;
    text = says.text;
    some = some_line (created_line_of params);
    steps = done;
    tiles = few;
  }
  made (Err e) done few says memory = at_memory (rebuild_calls files (no_cells params)) e (all_some done) memory

  -- nothing was held
  pub begun : (names : List Key) (result : Result Answer Stop) → names ≡ []
      → AllDone (rebuild_calls files (no_cells params)) held log held' log'
      → work' ≤ work + count_existing (no_cells params) (existing (no_cells params))
      → IfOk result (Says (done_reply (created_line_of params))) → OnlyMemory result
      → TurnOf (init_by params files names) held held' log log' work work' result
  begun names result none done few says memory =
      subst (λ x. TurnOf (init_by params files x) held held' log log' work work' result) (sym none) (made result done few says memory)

  full_untold : (refusal : EngineAnswer) (a : Answer) → keys files ≡ [] → IsFull refusal files held' log log' → IsTold refusal a → ⊥
  full_untold (answer.CellPresent square level) a none full told = full
  full_untold (answer.CellAbsent square level) a none full told = full
  full_untold answer.DatabaseFull a none full told = full
  full_untold (answer.NotEmpty name) a none full told =
      absurd (cc (sym (full.0), ap (λ names. slice_get names zero) none))
  full_untold (answer.NotADatabase line) a none full told = full
  full_untold (answer.Trouble trouble) a none full told = full
  full_untold (answer.NoTile tile) a none full told = full
  full_untold (answer.TileLost name) a none full told = full
  full_untold (answer.OldVersion version) a none full told = full
  full_untold (answer.NotOld version) a none full told = full
  full_untold answer.StoreFault a none full told = told
  full_untold answer.NoMemory a none full told = told

  -- the least name is told
  full_says : (refusal : EngineAnswer) (a : Answer) (name : Key) (names : List Key) → keys files ≡ name ∷ names
      → IsFull refusal files held' log log' → IsTold refusal a → Says (refused_reply (cause_of (answer.NotEmpty name))) a
  full_says (answer.CellPresent square level) a name names some full told = absurd full
  full_says (answer.CellAbsent square level) a name names some full told = absurd full
  full_says answer.DatabaseFull a name names some full told = absurd full
  full_says (answer.NotEmpty other) a name names some full told =
      let first : Some name ≡ Some other = sym (ap (λ xs. slice_get xs zero) some) ∙ full.0 in
      let same : other ≡ name = cc in
      subst (λ x. Says (refused_reply (cause_of (answer.NotEmpty x))) a) same told
  full_says (answer.NotADatabase line) a name names some full told = absurd full
  full_says (answer.Trouble trouble) a name names some full told = absurd full
  full_says (answer.NoTile tile) a name names some full told = absurd full
  full_says (answer.TileLost other) a name names some full told = absurd full
  full_says (answer.OldVersion version) a name names some full told = absurd full
  full_says (answer.NotOld version) a name names some full told = absurd full
  full_says answer.StoreFault a name names some full told = absurd told
  full_says answer.NoMemory a name names some full told = absurd told

  none_made : (refusal : EngineAnswer) (result : Result Answer Stop) → keys files ≡ []
      → SomeDone (rebuild_calls files (no_cells params)) held log held' log' → IsFull refusal files held' log log'
      → IfOk result (IsTold refusal) → IfErr result (StopsBy refusal)
      → TurnOf (init_by params files []) held held' log log' work work' result
  none_made refusal (Ok a) none some full told by = absurd (full_untold refusal a none full told)
  none_made refusal (Err e) none some full told by = at_stop (rebuild_calls files (no_cells params)) e refusal some by

  turned_down : (refusal : EngineAnswer) (name : Key) (names : List Key) (result : Result Answer Stop) → held ≡ Some files
      → keys files ≡ name ∷ names → IsIdle files held' log log' work work' → IsFull refusal files held' log log'
      → IfOk result (IsTold refusal) → IfErr result (StopsBy refusal)
      → TurnOf (init_by params files (name ∷ names)) held held' log log' work work' result
  turned_down refusal name names (Ok a) is some idle full told by =
      let says = full_says refusal a name names some full told in
      let same = idle.same_work in record {
        status_is = says.status;
        text = says.text;
        some = some_cause (cause_of (answer.NotEmpty name));
        steps = quiet (idle.same_held ∙ sym is) idle.same_log;
        tiles = omega (arith, same);
      }
  turned_down refusal name names (Err e) is some idle full told by =
      at_stop [] e refusal (not_yet (idle.same_held ∙ sym is) idle.same_log) by

  pub not_begun : (refusal : EngineAnswer) (names : List Key) (result : Result Answer Stop) → held ≡ Some files
      → keys files ≡ names → (keys files ≡ [] → SomeDone (rebuild_calls files (no_cells params)) held log held' log')
      → (keys files ≢ [] → IsIdle files held' log log' work work') → IsFull refusal files held' log log'
      → IfOk result (IsTold refusal) → IfErr result (StopsBy refusal)
      → TurnOf (init_by params files names) held held' log log' work work' result
  not_begun refusal [] result is names_are some idle full told by =
      none_made refusal result names_are (some names_are) full told by
  not_begun refusal (name ∷ names) result is names_are some idle full told by =
      turned_down refusal name names result is names_are (idle (λ none. absurd (cc (sym none ∙ names_are)))) full told by

-- ---- it is made anew

pub same_files : {held : Option Files} {o : Contents} {s : State} (files : Files) → held ≡ Some files
    → (h : HoldsState held o s) → h.files ≡ files
same_files files is h = let both : Some h.files ≡ Some files = sym h.held_is ∙ is in cc

module _ (s : State) (files : Files) (held held' : Option Files) (log log' : Option (List Change)) (o o' : Contents)
    (work work' : ℕ) (is : held ≡ Some files) (h : HoldsState held o s) where
  pub anew : (result : Result Answer Stop) → AllDone (rebuild_calls h.files s) held log held' log' → o' ≡ o
      → work' ≤ work + count_existing s (existing s) → IfOk result (Says (done_reply (rebuilt_line_of (tiles_of o'))))
      → OnlyMemory result → TurnOf (rebuilt_course s files) held held' log log' work work' result
  anew (Ok a) done same few says memory = record {
    status_is = says.status;
    text = says.text ∙ ap (λ n. (done_reply (rebuilt_line_of n)).text) (ap tiles_of same ∙ tiles_are h);
    some = some_line (rebuilt_line_of (tiles_in s));
    steps = subst (λ f. AllDone (rebuild_calls f s) held log held' log') (same_files files is h) done;
    tiles = few;
  }
  anew (Err e) done same few says memory = at_memory (rebuild_calls files s) e
      (all_some (subst (λ f. AllDone (rebuild_calls f s) held log held' log') (same_files files is h) done)) memory

  pub not_anew : (refusal : EngineAnswer) (result : Result Answer Stop) → SomeDone (rebuild_calls h.files s) held log held' log'
      → IsStop refusal → IfOk result (IsTold refusal) → IfErr result (StopsBy refusal)
      → TurnOf (rebuilt_course s files) held held' log log' work work' result
  not_anew refusal (Ok a) some st told by = absurd (stop_untold refusal a st told)
  not_anew refusal (Err e) some st told by = at_stop (rebuild_calls files s) e refusal
      (subst (λ f. SomeDone (rebuild_calls f s) held log held' log') (same_files files is h) some) by

-- ---- an edit

pub edit_turns : (reply : EditReply) (held held' : Option Files) (log log' : Option (List Change)) (o' : Contents)
    (work work' : ℕ) (result : Result Answer Stop) → EditGoes reply held held' log log' o' work work' result
    → TurnOf (edit_course reply) held held' log log' work work' result
edit_turns reply held held' log log' o' work work' (Ok a) goes = goes.turn
edit_turns reply held held' log log' o' work work' (Err e) goes = goes
