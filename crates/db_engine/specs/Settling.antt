-- What settling does, and what it leaves.
use Rattle.std.specs.Prelude.{◌≡◌, ℕ, List, Option, Some, None, Result, OnOk, OnErr, IfSome}
use Rattle.terrain_base.specs.declared.cell_key.CellKey.{CellKey}
use Rattle.terrain_base.specs.declared.name.Key.{Key}
use Rattle.terrain_base.specs.declared.params.Params.{Params}
use Rattle.terrain_base.specs.declared.store.Change.{Change}
use Rattle.terrain_base.specs.declared.summary.Summary.{Summary}
use Rattle.terrain_base.specs.Step.{Files}
use Rattle.std.specs.FinMap.{get}
use Rattle.manifest_lines.specs.declared.state.State.TheVariants.{Closed, Put, Drop, Rebuild}
use Rattle.db_manifest.specs.Manifest.{ManifestState}
use Rattle.cell_mosaic.specs.Summaries.{summaries_of}
use Rattle.tile_deps.specs.Tiles.{touched}
use Rattle.database.specs.declared.answer.EngineAnswer.{EngineAnswer}
use Rattle.database.specs.Answer.{IsStop, opening_of}
use Rattle.database.specs.Commands.{existing}
use Rattle.database.specs.Opening.{Opening, Opens, OldVersion, NotADatabase, InTrouble, OpensAs}
use Rattle.database.specs.State.{State, AreFiles, ReadsAs, ReadsFor, StandsFor, settled}
use Rattle.db_files.specs.Serving.{count_existing}
use Rattle.db_engine.specs.Opened.{Contents}
use Rattle.db_engine.specs.Holding.{HoldsState, Stands}

-- the store reads as the state, where the cell of this key is being put
pub record Staged (held : Option Files) (params : Params) (rows : List Summary) (key : CellKey)
    (s : State) : Type 0 where
  pub files : Files
  pub held_is : held ≡ Some files
  pub params_is : params ≡ s.params
  pub rows_is : rows ≡ summaries_of s.cells
  pub reads : ReadsAs files s (Put key)

-- how many tiles settling makes, at most
abbrev pub count_settling : ManifestState → State → ℕ
count_settling Closed s = 0
count_settling (Put key) s = count_existing s (touched s.params.cap key.square)
count_settling (Drop key) s = count_existing s (touched s.params.cap key.square)
count_settling Rebuild s = count_existing s (existing s)

-- of files that stand for a state: after Ok they are the state's, after a stop they stand for it still
pub record Settles {T E : Type 0} (s : State) (held : Option Files) (result : Result T E) : Type 0 where
  pub ok : OnOk result (IfSome held (λ files. AreFiles files s))
  pub err : OnErr result (IfSome held (λ files. StandsFor files s))

-- of a rebuilding over a store that holds the cells of a state: after Ok it stands for the state, after a stop its
-- files read as it still
pub record Rebuilds {T E : Type 0} (s : State) (held : Option Files) (o : Contents) (result : Result T E) : Type 0 where
  pub ok : OnOk result (Stands held o s)
  pub err : OnErr result (IfSome held (λ files. ReadsFor files s))

-- of files that only read as a state: after Ok they are the settled ones, after a stop they read as it still
pub record LeavesSettled {T E : Type 0} (mark : ManifestState) (s : State) (files : Files) (held : Option Files)
    (result : Result T E) : Type 0 where
  pub ok : OnOk result (IfSome held (λ after. (name : Key) → get after name ≡ settled mark s files name))
  pub err : OnErr result (IfSome held (λ after. ReadsFor after s))

-- the files read as the state that is opened, and the store holds its cells
pub record IsOpened (files : Files) (held : Option Files) (o : Contents) : Type 0 where
  pub state : State
  pub mark : ManifestState
  pub reads : ReadsAs files state mark
  pub holds : HoldsState held o state

-- nothing that can be seen is changed, and no tile is made
pub record IsIdle (files : Files) (held : Option Files) (log log' : Option (List Change))
    (work work' : ℕ) : Type 0 where
  pub same_held : held ≡ Some files
  pub same_log : log' ≡ log
  pub same_work : work' ≡ work

-- an answer that tells how the files open is right, and then the call is idle; one that tells nothing of it is a stop
abbrev pub IsRefusalBy : Option Opening → EngineAnswer → Files → Option Files → Option (List Change)
    → Option (List Change)
    → ℕ → ℕ → Type 0
IsRefusalBy None answer files held log log' work work' = IsStop answer
IsRefusalBy (Some opening) answer files held log log' work work' =
    OpensAs files opening × IsIdle files held log log' work work'

abbrev pub IsRefusal : EngineAnswer → Files → Option Files → Option (List Change) → Option (List Change)
    → ℕ → ℕ → Type 0
IsRefusal answer files held log log' work work' = IsRefusalBy (opening_of answer) answer files held log log' work work'

-- over files that open as no state the call is idle, whatever it answers
abbrev pub IsLeft : Opening → Files → Option Files → Option (List Change) → Option (List Change) → ℕ → ℕ → Type 0
IsLeft (Opens state mark) files held log log' work work' = Unit {0}
IsLeft (OldVersion version) files held log log' work work' = IsIdle files held log log' work work'
IsLeft (NotADatabase line) files held log log' work work' = IsIdle files held log log' work work'
IsLeft (InTrouble trouble) files held log log' work work' = IsIdle files held log log' work work'
