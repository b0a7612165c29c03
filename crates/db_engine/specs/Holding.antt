-- The store holds the cells of an opened database, or stands for it; and how a database begins.
use Rattle.std.specs.Prelude.{◌≡◌, ◌⊎◌, zero, List, [], Option, Some, Result, OnOk, OnErr, IfSome, slice_get}
use Rattle.std.specs.FinMap.{empty, keys}
use Rattle.manifest_lines.specs.declared.state.State.TheVariants.{Closed}
use Rattle.terrain_base.specs.declared.params.Params.{Params}
use Rattle.terrain_base.specs.declared.store.Change.{Change}
use Rattle.terrain_base.specs.Step.{Files}
use Rattle.cell_mosaic.specs.Summaries.{summaries_of}
use Rattle.database.specs.State.{State, AreFiles, ReadsAs, StandsMarked, StandsFor}
use Rattle.database.specs.declared.answer.EngineAnswer.{EngineAnswer}
use Rattle.database.specs.declared.answer.EngineAnswer.TheVariants.{CellPresent, CellAbsent, DatabaseFull, NotEmpty, NotADatabase, Trouble, NoTile, TileLost, OldVersion, NotOld, StoreFault, NoMemory}
use Rattle.db_engine.specs.Opened.{Contents}

-- the files that are held read as the state, closed, and its params and its cells in short are those opened
pub record HoldsState (held : Option Files) (o : Contents) (s : State) : Type 0 where
  pub files : Files
  pub held_is : held ≡ Some files
  pub reads : ReadsAs files s Closed
  pub params_is : o.params ≡ s.params
  pub rows_is : o.rows ≡ summaries_of s.cells

-- and they stand for it
pub record Stands (held : Option Files) (o : Contents) (s : State) : Type 0 where
  pub holds : HoldsState held o s
  pub stands : StandsMarked holds.files s Closed

-- ---- how a database begins

abbrev pub no_cells : Params → State
no_cells params = record { params = params; cells = empty }

-- a refused beginning names the least name that is held, and changes nothing
abbrev pub IsFull : EngineAnswer → Files → Option Files → Option (List Change) → Option (List Change) → Type 0
IsFull (CellPresent square level) files held log log' = ⊥
IsFull (CellAbsent square level) files held log log' = ⊥
IsFull DatabaseFull files held log log' = ⊥
IsFull (NotEmpty name) files held log log' =
    (slice_get (keys files) zero ≡ Some name) × ((held ≡ Some files) × (log' ≡ log))
IsFull (NotADatabase line) files held log log' = ⊥
IsFull (Trouble trouble) files held log log' = ⊥
IsFull (NoTile tile) files held log log' = ⊥
IsFull (TileLost name) files held log log' = ⊥
IsFull (OldVersion version) files held log log' = ⊥
IsFull (NotOld version) files held log log' = ⊥
IsFull StoreFault files held log log' = Unit {0}
IsFull NoMemory files held log log' = Unit {0}

-- a stop, or that a name is held
abbrev pub IsStopOrFull : EngineAnswer → Type 0
IsStopOrFull (CellPresent square level) = ⊥
IsStopOrFull (CellAbsent square level) = ⊥
IsStopOrFull DatabaseFull = ⊥
IsStopOrFull (NotEmpty name) = Unit {0}
IsStopOrFull (NotADatabase line) = ⊥
IsStopOrFull (Trouble trouble) = ⊥
IsStopOrFull (NoTile tile) = ⊥
IsStopOrFull (TileLost name) = ⊥
IsStopOrFull (OldVersion version) = ⊥
IsStopOrFull (NotOld version) = ⊥
IsStopOrFull StoreFault = Unit {0}
IsStopOrFull NoMemory = Unit {0}

-- a beginning leaves the files of the state, for which the store stands; a stop leaves nothing held, or files that
-- stand for it
pub record Starts {T E : Type 0} (s : State) (held : Option Files) (result : Result T E) : Type 0 where
  pub ok : OnOk result (IfSome held (λ files. AreFiles files s × StandsMarked files s Closed))
  pub err : OnErr result (IfSome held (λ files. (keys files ≡ []) ⊎ StandsFor files s))
