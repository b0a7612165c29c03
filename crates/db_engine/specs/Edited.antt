-- What a command that adds, replaces or removes a cell does.
use Rattle.std.specs.Prelude.{◌≡◌, ◌⊎◌, ℕ, ◌+◌, ◌≤◌, List, Option, Some, None, Result, Err, OnOk, OnErr, IfSome, true, false}
use Rattle.terrain_base.specs.declared.store.Change.{Change}
use Rattle.terrain_base.specs.declared.summary.Summary.{Summary}
use Rattle.terrain_base.specs.Run.{Ran}
use Rattle.terrain_base.specs.Step.{Files}
use Rattle.tile_deps.specs.Tiles.{touched}
use Rattle.database.specs.declared.answer.EngineAnswer.{EngineAnswer}
use Rattle.database.specs.Answer.{OnlyStops}
use Rattle.database.specs.Commands.{Command, Edit, after, calls, edit_of, key_of, refusal_of, OldOrNew}
use Rattle.database.specs.State.{State, AreFiles, ReadsFor}
use Rattle.db_files.specs.Serving.{count_existing}
use Rattle.db_files.specs.Trouble.{OnlyStopsOrRowTrouble}
use Rattle.db_engine.specs.Opened.{Contents, contents_of}
use Rattle.db_engine.specs.Holding.{HoldsState, Stands}
use Rattle.db_engine.specs.Rows.{rows_after}

-- ---- over any store

-- a refusal changes nothing
pub record Refused {T : Type 0} (answer : EngineAnswer) (o o' : Contents) (held held' : Option Files)
    (log log' : Option (List Change)) (faults faults' work work' : ℕ) (result : Result T EngineAnswer) : Type 0 where
  pub answered : result ≡ Err answer
  pub opened : o' ≡ o
  pub same_held : held' ≡ held
  pub same_log : log' ≡ log
  pub same_faults : faults' ≡ faults
  pub same_work : work' ≡ work

-- what becomes of the opened database where the command is not refused: after Ok its rows are those behind the edit,
-- after an error it is not live
pub record Turned {T : Type 0} (edit : Edit) (o o' : Contents) (result : Result T EngineAnswer) : Type 0 where
  pub ok : OnOk result (o' ≡ contents_of o.params (rows_after edit o.rows) true)
  pub err : OnErr result (o'.live ≡ false)

-- What is answered in place of Ok where the command is not refused: a stop, or trouble with the cell of a row behind
-- the edit. Where the store tells its files, they show the trouble as the call begins, and the row was there then.
pub record EditTrouble {T : Type 0} (edit : Edit) (rows : List Summary) (held : Option Files)
    (result : Result T EngineAnswer) : Type 0 where
  pub any : OnlyStopsOrRowTrouble (rows_after edit rows) held result
  pub told : IfSome held (λ files. OnlyStopsOrRowTrouble rows (Some files) result)

-- ---- over a store that holds the cells of a state

-- a refused command changes nothing
pub record EditRefused {T : Type 0} (answer : EngineAnswer) (s : State) (held held' : Option Files)
    (log log' : Option (List Change)) (o' : Contents) (result : Result T EngineAnswer) : Type 0 where
  pub answered : result ≡ Err answer
  pub same_held : held' ≡ held
  pub same_log : log' ≡ log
  pub holds : HoldsState held' o' s

-- the files read as the old state or as the new one, whatever is under way
abbrev pub ReadsAsOldOrNew : Edit → State → Files → Type 0
ReadsAsOldOrNew edit s files = ReadsFor files s ⊎ ReadsFor files (after edit s)

-- One that is not makes its changes, or a front of them where it stops. After Ok the store holds the new state's cells;
-- after an error its files read as the old state or as the new one. Only a stop by the store or for want of memory is
-- answered in place of Ok, and no more tiles are made than exist in the new state and touch the square.
pub record EditRan {T : Type 0} (edit : Edit) (s : State) (held held' : Option Files)
    (log log' : Option (List Change)) (o' : Contents) (work work' : ℕ) (result : Result T EngineAnswer) : Type 0 where
  pub ran : Ran (calls edit s) held log held' log' result
  pub holds : OnOk result (HoldsState held' o' (after edit s))
  pub reads : OnErr result (IfSome held' (ReadsAsOldOrNew edit s))
  pub stop : OnlyStops result
  pub few : work' ≤ work + count_existing (after edit s) (touched s.params.cap (key_of edit).square)

abbrev pub EditedBy : {T : Type 0} → Option EngineAnswer → Edit → State → Option Files → Option Files
    → Option (List Change) → Option (List Change) → Contents → ℕ → ℕ → Result T EngineAnswer → Type 0
EditedBy None edit s held held' log log' o' work work' result = EditRan edit s held held' log log' o' work work' result
EditedBy (Some answer) edit s held held' log log' o' work work' result =
    EditRefused answer s held held' log log' o' result

abbrev pub Edited : {T : Type 0} → Command → State → Option Files → Option Files
    → Option (List Change) → Option (List Change) → Contents → ℕ → ℕ → Result T EngineAnswer → Type 0
Edited command s held held' log log' o' work work' result =
    EditedBy (refusal_of command s) (edit_of command) s held held' log log' o' work work' result

-- ---- over a store that stands for a state

-- after Ok the files are those of the new state, for which the store stands; after an error they stand for the old
-- state or for the new one
pub record Ends {T : Type 0} (edit : Edit) (s : State) (held' : Option Files) (o' : Contents)
    (result : Result T EngineAnswer) : Type 0 where
  pub files : OnOk result (IfSome held' (λ files. AreFiles files (after edit s)))
  pub stands : OnOk result (Stands held' o' (after edit s))
  pub err : OnErr result (IfSome held' (OldOrNew edit s))
