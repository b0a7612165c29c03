-- What bringing a database to the present version leaves.
use Rattle.std.specs.Prelude.{◌≡◌, ◌⊎◌, ℕ, true, List, Option, Some, None, Result, OnOk, OnErr, IfSome}
use Rattle.terrain_base.specs.declared.store.Change.{Change}
use Rattle.terrain_base.specs.Step.{Files}
use Rattle.cell_mosaic.specs.Summaries.{summaries_of}
use Rattle.manifest_lines.specs.declared.version.Version.{Version}
use Rattle.database.specs.Answer.{IsStop}
use Rattle.database.specs.State.{State, AreFiles, StandsFor}
use Rattle.database.specs.declared.answer.EngineAnswer.{EngineAnswer}
use Rattle.db_engine.specs.Opened.{Contents, contents_of}
use Rattle.db_engine.specs.Settling.{IsIdle}
use Rattle.db_old_reading.specs.OldReads.{OldMark, OldReads, OldReadsFor}
use Rattle.db_old_reading.specs.OldOpening.{OldOpening, Migrates, NotOld, NotADatabase, InTrouble, MigratesAs, old_opening_of}

-- of files that read as a state by an old version: after Ok they are the state's, after a stop they read as it still by
-- that version, or stand for it
pub record Brings {T E : Type 0} (v : Version) (s : State) (held : Option Files) (result : Result T E) : Type 0 where
  pub ok : OnOk result (IfSome held (λ files. AreFiles files s))
  pub err : OnErr result (IfSome held (λ files. OldReadsFor files v s ⊎ StandsFor files s))

-- the files read as the state that is opened, and those that are held now are the state's
pub record IsBrought (files : Files) (held : Option Files) (o : Contents) : Type 0 where
  pub version : Version
  pub state : State
  pub mark : OldMark
  pub reads : OldReads files version state mark
  pub opened : o ≡ contents_of state.params (summaries_of state.cells) true
  pub brought : IfSome held (λ now. AreFiles now state)

-- an answer that tells how the files open is right, and then the call is idle; one that tells nothing of it is a stop
abbrev pub IsRefusalBy : Option OldOpening → EngineAnswer → Files → Option Files → Option (List Change)
    → Option (List Change) → ℕ → ℕ → Type 0
IsRefusalBy None answer files held log log' work work' = IsStop answer
IsRefusalBy (Some opening) answer files held log log' work work' =
    MigratesAs files opening × IsIdle files held log log' work work'

abbrev pub IsRefusal : EngineAnswer → Files → Option Files → Option (List Change) → Option (List Change)
    → ℕ → ℕ → Type 0
IsRefusal answer files held log log' work work' =
    IsRefusalBy (old_opening_of answer) answer files held log log' work work'

-- nothing that can be seen is changed, no tile is made, and the call gives no database
pub record IsTurnedAway {T E : Type 0} (files : Files) (held : Option Files) (log log' : Option (List Change))
    (work work' : ℕ) (result : Result T E) : Type 0 where
  pub idle : IsIdle files held log log' work work'
  pub refused : OnOk result ⊥

-- so it is over files that open as no state of an old version, whatever is answered
abbrev pub IsLeft : {T E : Type 0} → OldOpening → Files → Option Files → Option (List Change) → Option (List Change)
    → ℕ → ℕ → Result T E → Type 0
IsLeft (Migrates version state mark) files held log log' work work' result = Unit {0}
IsLeft (NotOld version) files held log log' work work' result = IsTurnedAway files held log log' work work' result
IsLeft (NotADatabase line) files held log log' work work' result = IsTurnedAway files held log log' work work' result
IsLeft (InTrouble trouble) files held log log' work work' result = IsTurnedAway files held log log' work work' result
