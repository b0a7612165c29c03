-- The course of a run: turns, each of which changes the store and then prints.
use Rattle.std.specs.Prelude.{◌≡◌, ◌⊎◌, ℕ, ◌+◌, ◌<◌, ◌≤◌, List, [], ◌∷◌, ◌++◌, length, Option, Some, None, option_map}
use Rattle.terrain_base.specs.declared.store.Change.{Change}
use Rattle.terrain_base.specs.Step.{Files, Step}
use Rattle.terrain_base.specs.Run.{AllDone, SomeDone}
use Rattle.terrain_base.specs.Sink.{FrontTaken}
use Rattle.top_reply.specs.declared.status.Status.{Status}
use Rattle.top_reply.specs.declared.stop.Stop.{Stop}
use Rattle.top_reply.specs.declared.stop.Stop.TheVariants.{Input, Store, Output, NoMemory}
use Rattle.top_reply.specs.Reply.{Reply}
use Rattle.top_reply.specs.Status.{stop_of}

-- what is held and logged, and what was printed so far, where the objects tell; and how many tiles were made
pub record World : Type 0 where
  pub held : Option Files
  pub log : Option (List Change)
  pub taken : Option (List ℕ)
  pub work : ℕ

abbrev pub world : Option Files → Option (List Change) → Option (List ℕ) → ℕ → World
world held log taken work = record { held = held; log = log; taken = taken; work = work }

-- changes of the store, how many tiles are made for them at most, and what is printed behind them
pub record Turn : Type 0 where
  pub steps : List Step
  pub tiles : ℕ
  pub text : List ℕ

abbrev pub steps_of : List Turn → List Step
steps_of [] = []
steps_of (turn ∷ turns) = turn.steps ++ steps_of turns

abbrev pub tiles_of : List Turn → ℕ
tiles_of [] = 0
tiles_of (turn ∷ turns) = turn.tiles + tiles_of turns

abbrev pub turns_text : List Turn → List ℕ
turns_text [] = []
turns_text (turn ∷ turns) = turn.text ++ turns_text turns

-- a status, and the turns of a run that nothing stops
pub record Course : Type 0 where
  pub status : Status
  pub turns : List Turn

-- ---- turns that are told in a word

abbrev pub quiet_turn : List Step → ℕ → Turn
quiet_turn steps tiles = record { steps = steps; tiles = tiles; text = [] }

abbrev pub text_turn : List ℕ → Turn
text_turn text = record { steps = []; tiles = 0; text = text }

-- a text and no change
abbrev pub said : Reply → Course
said reply = record { status = reply.status; turns = text_turn reply.text ∷ [] }

-- of a reply that is told by a relation
pub record IsSaid (Is : Reply → Type 0) (course : Course) : Type 0 where
  pub reply : Reply
  pub is : Is reply
  pub course_is : course ≡ said reply

-- ---- how turns go

-- all changes are made and all texts printed
pub record TurnsDone (turns : List Turn) (w w' : World) : Type 0 where
  pub steps : AllDone (steps_of turns) w.held w.log w'.held w'.log
  pub tiles : w'.work ≤ w.work + tiles_of turns
  pub text : w'.taken ≡ option_map (λ taken. taken ++ turns_text turns) w.taken

-- where in a turn it stopped: before it, among its changes, or when it was printed
pub record NotBegun (w w' : World) : Type 0 where
  pub held : w'.held ≡ w.held
  pub log : w'.log ≡ w.log
  pub taken : w'.taken ≡ w.taken

pub record InSteps (turn : Turn) (w w' : World) : Type 0 where
  pub steps : SomeDone turn.steps w.held w.log w'.held w'.log
  pub taken : w'.taken ≡ w.taken

pub record InText (turn : Turn) (w w' : World) : Type 0 where
  pub steps : AllDone turn.steps w.held w.log w'.held w'.log
  pub some : 0 < length turn.text
  pub front : FrontTaken w.taken turn.text w'.taken

-- the library is asked before the changes, and the text is printed after them
abbrev pub StopsAt : Stop → Turn → World → World → Type 0
StopsAt Input turn w w' = NotBegun w w'
StopsAt Store turn w w' = InSteps turn w w'
StopsAt Output turn w w' = InText turn w w'
StopsAt NoMemory turn w w' = InSteps turn w w' ⊎ InText turn w w'

-- the turns before one of them are done, and it stopped there
pub record StopsIn (stop : Stop) (turns : List Turn) (w w' : World) : Type 0 where
  pub before : List Turn
  pub turn : Turn
  pub later : List Turn
  pub parts : turns ≡ before ++ turn ∷ later
  pub mid : World
  pub done : TurnsDone before w mid
  pub at : StopsAt stop turn mid w'

-- ---- how a run goes

-- to its end: the status of its course, and all of its turns
pub record Answered (course : Course) (w w' : World) (status : Status) : Type 0 where
  pub status_is : status ≡ course.status
  pub turns : TurnsDone course.turns w w'

abbrev pub GoesBy : Course → World → World → Status → Option Stop → Type 0
GoesBy course w w' status None = Answered course w w' status
GoesBy course w w' status (Some stop) = StopsIn stop course.turns w w'

-- or it is stopped in a turn
abbrev pub Goes : Course → World → World → Status → Type 0
Goes course w w' status = GoesBy course w w' status (stop_of status)
