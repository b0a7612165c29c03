-- How a turn went whose text is answered, and printed by the caller.
use Rattle.std.specs.Prelude.{◌≡◌, ℕ, ◌+◌, ◌<◌, ◌≤◌, List, [], ◌∷◌, length, Option, Result, Ok, Err}
use Rattle.terrain_base.specs.declared.store.Change.{Change}
use Rattle.terrain_base.specs.Run.{AllDone, SomeDone}
use Rattle.terrain_base.specs.Step.{Files, Step}
use Rattle.top_reply.specs.declared.status.Status.{Status}
use Rattle.top_reply.specs.declared.stop.Stop.{Stop}
use Rattle.top_reply.specs.declared.stop.Stop.TheVariants.{Input, Store, Output, NoMemory}
use Rattle.top_reply.specs.Course.{Course, Turn}
use Rattle.terrain_top.specs.declared.answer.Answer.{Answer}
use Rattle.terrain_top.specs.Says.{status_at}

-- its changes are made, and the answer is its text with the status
pub record TurnDone (status : Status) (turn : Turn) (held held' : Option Files) (log log' : Option (List Change))
    (work work' : ℕ) (answer : Answer) : Type 0 where
  pub status_is : status_at answer.ending ≡ status
  pub text : answer.text.items ≡ turn.text
  pub some : 0 < length turn.text
  pub steps : AllDone turn.steps held log held' log'
  pub tiles : work' ≤ work + turn.tiles

-- it stopped: the library is asked before anything is changed
abbrev pub TurnStops : Stop → List Step → Option Files → Option Files → Option (List Change) → Option (List Change)
    → Type 0
TurnStops Input steps held held' log log' = (held' ≡ held) × (log' ≡ log)
TurnStops Store steps held held' log log' = SomeDone steps held log held' log'
TurnStops Output steps held held' log log' = ⊥
TurnStops NoMemory steps held held' log log' = SomeDone steps held log held' log'

abbrev pub TurnGoes : Status → Turn → Option Files → Option Files → Option (List Change) → Option (List Change)
    → ℕ → ℕ → Result Answer Stop → Type 0
TurnGoes status turn held held' log log' work work' (Ok answer) =
    TurnDone status turn held held' log log' work work' answer
TurnGoes status turn held held' log log' work work' (Err e) = TurnStops e turn.steps held held' log log'

-- a course of one turn
abbrev pub OnlyTurnGoes : Status → List Turn → Option Files → Option Files → Option (List Change) → Option (List Change)
    → ℕ → ℕ → Result Answer Stop → Type 0
OnlyTurnGoes status [] held held' log log' work work' result = ⊥
OnlyTurnGoes status (turn ∷ []) held held' log log' work work' result =
    TurnGoes status turn held held' log log' work work' result
OnlyTurnGoes status (turn ∷ next ∷ turns) held held' log log' work work' result = ⊥

abbrev pub TurnOf : Course → Option Files → Option Files → Option (List Change) → Option (List Change)
    → ℕ → ℕ → Result Answer Stop → Type 0
TurnOf course held held' log log' work work' result =
    OnlyTurnGoes course.status course.turns held held' log log' work work' result
