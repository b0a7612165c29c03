-- What is known of a store and its opened database between commands, and what a command does to them.
use Rattle.std.specs.Prelude.{◌≡◌, ℕ, ◌+◌, ◌≤◌, Bool, true, false, not, List, Option, Some, None, Result, Ok, Err, IfSome}
use Rattle.std.specs.FinMap.{get}
use Rattle.terrain_base.specs.declared.name.Key.TheVariants.{Cell}
use Rattle.terrain_base.specs.declared.summary.Summary.{Summary}
use Rattle.terrain_base.specs.Step.{Files}
use Rattle.dted_cell.specs.Trouble.{IsCellAt}
use Rattle.database.specs.declared.answer.EngineAnswer.{EngineAnswer}
use Rattle.database.specs.declared.answer.EngineAnswer.TheVariants.{CellPresent, CellAbsent, DatabaseFull, NotEmpty, NotADatabase, Trouble, NoTile, TileLost, OldVersion, NotOld, StoreFault, NoMemory}
use Rattle.database.specs.Cells.{row_key}
use Rattle.database.specs.Commands.{Command, Add, next, refusal_of}
use Rattle.database.specs.State.{State, AreFiles}
use Rattle.db_engine.specs.Holding.{Stands, no_cells}
use Rattle.db_engine.specs.Opened.{Contents}
use Rattle.db_trial.specs.Sequence.{adding, accepted_in, after_all, is_refused, refused_in, tiles_made, tiles_of}

-- the store has the files of the state and no other, and the opened database is that of the state and may be used
pub record Keeps (held : Option Files) (o : Contents) (s : State) : Type 0 where
  pub stands : Stands held o s
  pub files : IfSome held (λ files. AreFiles files s)
  pub live : o.live ≡ true

-- some state is kept
pub record IsKept (held : Option Files) (o : Contents) : Type 0 where
  pub state : State
  pub keeps : Keeps held o state

-- whether a command was accepted, where nothing stopped it: K1 to K3 refuse it
abbrev pub told_of : {T : Type 0} → Result T EngineAnswer → Result Bool EngineAnswer
told_of (Ok value) = Ok true
told_of (Err (CellPresent square level)) = Ok false
told_of (Err (CellAbsent square level)) = Ok false
told_of (Err DatabaseFull) = Ok false
told_of (Err (NotEmpty name)) = Err (NotEmpty name)
told_of (Err (NotADatabase line)) = Err (NotADatabase line)
told_of (Err (Trouble trouble)) = Err (Trouble trouble)
told_of (Err (NoTile tile)) = Err (NoTile tile)
told_of (Err (TileLost name)) = Err (TileLost name)
told_of (Err (OldVersion version)) = Err (OldVersion version)
told_of (Err (NotOld version)) = Err (NotOld version)
told_of (Err StoreFault) = Err StoreFault
told_of (Err NoMemory) = Err NoMemory

-- the command is done, or refused: it leaves the next state, and makes its tiles at most
pub record Did (c : Command) (s : State) (held : Option Files) (o : Contents) (work work' : ℕ)
    (accepted : Bool) : Type 0 where
  pub keeps : Keeps held o (next c s)
  pub accepted_is : accepted ≡ not (is_refused c s)
  pub few : work' ≤ work + tiles_of c s

-- commands one after the other are
pub record DidAll (commands : List Command) (s : State) (held : Option Files) (o : Contents) (work work' : ℕ)
    (accepted refused : ℕ) : Type 0 where
  pub keeps : Keeps held o (after_all commands s)
  pub accepted_is : accepted ≡ accepted_in commands s
  pub refused_is : refused ≡ refused_in commands s
  pub few : work' ≤ work + tiles_made commands s

-- the store holds these bytes for the row, they are a cell of its key, and another database has room for it
pub record CanAdd (held : Option Files) (row : Summary) (bytes : List ℕ) (other : Option Files) (o : Contents)
    (t : State) : Type 0 where
  pub files : Files
  pub held_is : held ≡ Some files
  pub there : get files (Cell (row_key row)) ≡ Some bytes
  pub cell : IsCellAt (row_key row) bytes
  pub keeps : Keeps other o t
  pub free : refusal_of (Add (row_key row) bytes) t ≡ None

-- of some cell
pub record IsAddable (held : Option Files) (row : Summary) (other : Option Files) (o : Contents) : Type 0 where
  pub bytes : List ℕ
  pub state : State
  pub can : CanAdd held row bytes other o state

-- one database is kept, and another one of no cells
pub record AreKept (held : Option Files) (o : Contents) (other : Option Files) (grown : Contents) : Type 0 where
  pub state : State
  pub keeps : Keeps held o state
  pub begun : Keeps other grown (no_cells state.params)

-- a database that is built from scratch has the files of the state
pub record Built (s : State) (held : Option Files) (o : Contents) (work work' : ℕ) : Type 0 where
  pub keeps : Keeps held o s
  pub few : work' ≤ work + tiles_made (adding s) (no_cells s.params)
