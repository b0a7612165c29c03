-- What a reading of files tells.
use Rattle.std.specs.Prelude.{◌≡◌, Option, Some, None}
use Rattle.terrain_base.specs.Step.{Files}
use Rattle.cell_mosaic.specs.Summaries.{summaries_of}
use Rattle.db_manifest.specs.Manifest.{ManifestState}
use Rattle.database.specs.Answer.{IsStop, opening_of}
use Rattle.database.specs.Opening.{Opening, OpensAs}
use Rattle.database.specs.State.{State, ReadsAs}
use Rattle.database.specs.declared.answer.EngineAnswer.{EngineAnswer}
use Rattle.db_reading.specs.declared.reading.Reading.{Reading}

-- the files that are held read as the state with the mark that was read, and params and rows are the state's
pub record Known (held : Option Files) (reading : Reading) (s : State) : Type 0 where
  pub files : Files
  pub held_is : held ≡ Some files
  pub reads : ReadsAs files s reading.mark
  pub params_is : reading.params ≡ s.params
  pub rows_is : reading.rows.items ≡ summaries_of s.cells

-- so they read, and as nothing else
pub record Found (files : Files) (reading : Reading) : Type 0 where
  pub state : State
  pub known : Known (Some files) reading state
  pub only : (s : State) (mark : ManifestState) → ReadsAs files s mark → (s ≡ state) × (mark ≡ reading.mark)

-- the files open as the answer says; one that says nothing of it is a stop
abbrev pub IsToldAs : Option Opening → Files → EngineAnswer → Type 0
IsToldAs None files answer = IsStop answer
IsToldAs (Some opening) files answer = OpensAs files opening

abbrev pub IsToldBy : Files → EngineAnswer → Type 0
IsToldBy files answer = IsToldAs (opening_of answer) files answer
