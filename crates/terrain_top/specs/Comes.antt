-- How a command went, whose last text is answered and printed by the caller.
use Rattle.std.specs.Prelude.{◌≡◌, ◌+◌, ◌<◌, ◌≤◌, List, [], ◌∷◌, ◌++◌, length, Result, Ok, Err}
use Rattle.terrain_base.specs.Run.{AllDone}
use Rattle.top_reply.specs.declared.stop.Stop.{Stop}
use Rattle.top_reply.specs.Course.{Course, Turn, World, Answered, StopsIn, TurnsDone}
use Rattle.terrain_top.specs.declared.answer.Answer.{Answer}
use Rattle.terrain_top.specs.declared.answer.Ending.{Ending}
use Rattle.terrain_top.specs.Says.{status_at}

-- all of its course but the last text is done, and the answer is that text with the course's status
pub record Ends (course : Course) (w w' : World) (answer : Answer) : Type 0 where
  pub before : List Turn
  pub last : Turn
  pub parts : course.turns ≡ before ++ last ∷ []
  pub mid : World
  pub done : TurnsDone before w mid
  pub steps : AllDone last.steps mid.held mid.log w'.held w'.log
  pub tiles : w'.work ≤ mid.work + last.tiles
  pub taken : w'.taken ≡ mid.taken
  pub some : 0 < length last.text
  pub text : answer.text.items ≡ last.text
  pub status_is : status_at answer.ending ≡ course.status

abbrev pub Comes : Course → World → World → Result Answer Stop → Type 0
Comes course w w' (Ok answer) = Ends course w w' answer
Comes course w w' (Err e) = StopsIn e course.turns w w'

-- the last text is printed too
abbrev pub Passes : Course → World → World → Result Ending Stop → Type 0
Passes course w w' (Ok ending) = Answered course w w' (status_at ending)
Passes course w w' (Err e) = StopsIn e course.turns w w'
