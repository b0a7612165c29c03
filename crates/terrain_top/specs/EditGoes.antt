-- How an edit went.
use Rattle.std.specs.Prelude.{◌≡◌, ℕ, true, List, string_bytes, Option, Result, Ok, Err, IfErr, IfOk}
use Rattle.terrain_base.specs.declared.cell_key.CellKey.{CellKey}
use Rattle.terrain_base.specs.declared.store.Change.{Change}
use Rattle.terrain_base.specs.Step.{Files}
use Rattle.cell_mosaic.specs.Whole.{key_in}
use Rattle.availability.specs.Count.{tile_count_of}
use Rattle.database.specs.declared.answer.EngineAnswer.{EngineAnswer}
use Rattle.database.specs.Commands.{Command}
use Rattle.db_engine.specs.Holding.{HoldsState}
use Rattle.db_engine.specs.Opened.{Contents}
use Rattle.top_reply.specs.declared.stop.Stop.{Stop}
use Rattle.top_reply.specs.Edits.{EditReply, Refused, Wants, edit_turn, status_by, wanted_of}
use Rattle.top_reply.specs.File.{Found}
use Rattle.top_reply.specs.Reply.{Reply}
use Rattle.terrain_top.specs.declared.answer.Answer.{Answer}
use Rattle.terrain_top.specs.declared.edit.CellRead.{CellRead}
use Rattle.terrain_top.specs.declared.edit.CellRead.TheVariants as read
use Rattle.terrain_top.specs.Effects.{OnlyMemory, StopsBy}
use Rattle.terrain_top.specs.Says.{IsTold, Says}
use Rattle.terrain_top.specs.Turns.{TurnDone, TurnStops}

-- what a file was read as agrees with what it is wanted for: a cell of its key, or the cause of the refusal
abbrev pub CellWanted : Found → CellRead → Type 0
CellWanted found (read.Cell cell) =
    (make : CellKey → List ℕ → Command) → wanted_of make found ≡ Wants (make (key_in cell) cell)
CellWanted found (read.Refused cause) =
    (make : CellKey → List ℕ → Command) → wanted_of make found ≡ Refused (string_bytes cause)

-- how many tiles an opened database has
abbrev pub tiles_of : Contents → ℕ
tiles_of opened = tile_count_of opened.params.cap opened.rows

-- what the engine's answer to an edit comes to, by the reply where it is done
abbrev pub Answers : Reply → Result (Unit {0}) EngineAnswer → Result Answer Stop → Type 0
Answers reply (Ok done) result = IfOk result (Says reply) × OnlyMemory result
Answers reply (Err refusal) result = IfOk result (IsTold refusal) × IfErr result (StopsBy refusal)

-- it is done but for its text, and the store holds the cells of the state after it
pub record EditDone (reply : EditReply) (held held' : Option Files) (log log' : Option (List Change))
    (opened' : Contents) (work work' : ℕ) (answer : Answer) : Type 0 where
  pub turn : TurnDone (status_by reply.refused) (edit_turn reply) held held' log log' work work' answer
  pub holds : HoldsState held' opened' reply.next
  pub live : opened'.live ≡ true

abbrev pub EditGoes : EditReply → Option Files → Option Files → Option (List Change) → Option (List Change) → Contents
    → ℕ → ℕ → Result Answer Stop → Type 0
EditGoes reply held held' log log' opened' work work' (Ok answer) =
    EditDone reply held held' log log' opened' work work' answer
EditGoes reply held held' log log' opened' work work' (Err e) = TurnStops e reply.steps held held' log log'
