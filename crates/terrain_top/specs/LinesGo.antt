-- How lines of a script went.
use Rattle.std.specs.Prelude.{◌≡◌, ℕ, ◌+◌, ◌≤◌, Bool, true, false, List, ◌++◌, Option, Some, None}
use Rattle.std.specs.Prelude.{codes, Result, Ok, Err, IfErr, nat_lt, option_map}
use Rattle.terrain_base.specs.Library.{LibraryFiles}
use Rattle.terrain_base.specs.Sink.{FrontTaken}
use Rattle.top_words.specs.Script.{Line, Passed, Change, NoCommand}
use Rattle.database.specs.State.{State}
use Rattle.db_engine.specs.Holding.{HoldsState}
use Rattle.db_engine.specs.Opened.{Contents}
use Rattle.db_report.specs.Done.{script_mark_of}
use Rattle.top_reply.specs.declared.stop.Stop.{Stop}
use Rattle.top_reply.specs.Course.{World, TurnsDone, StopsIn}
use Rattle.top_reply.specs.Edits.{Wanted, Refused, status_by, wanted}
use Rattle.top_reply.specs.Lines.{Numbered, after_lines, done_in, ended_text, refused_in, turns_of}
use Rattle.top_reply.specs.Reply.{Reply}
use Rattle.terrain_top.specs.declared.answer.Answer.{Answer}
use Rattle.terrain_top.specs.declared.answer.Ending.{Ending}
use Rattle.terrain_top.specs.declared.answer.Ending.TheVariants as ending
use Rattle.terrain_top.specs.declared.script.LinesAnswer.{LinesAnswer}
use Rattle.terrain_top.specs.declared.script.LinesAnswer.TheVariants.{All, Ended}
use Rattle.terrain_top.specs.declared.script.Tally.{Tally}
use Rattle.terrain_top.specs.Says.{IsPlain}

-- what a line asks for; none where it is passed over
abbrev pub line_wanted : Line → LibraryFiles → Option Wanted
line_wanted Passed library = None
line_wanted (Change edit) library = Some (wanted edit library)
line_wanted NoCommand library = Some (Refused (codes "F3 not a command"))

-- only of a line that is not passed over a file is read
abbrev pub IsCommandLine : {T : Type 0} → Line → Result T Stop → Type 0
IsCommandLine Passed result = IfErr result (λ e. ⊥)
IsCommandLine (Change edit) result = Unit {0}
IsCommandLine NoCommand result = Unit {0}

-- the counts of one line: done, or refused
abbrev pub tally_at : Ending → Tally
tally_at ending.Done = record { done = 1; refused = 0 }
tally_at ending.Refused = record { done = 0; refused = 1 }
tally_at ending.Found = record { done = 0; refused = 1 }

-- what is printed of a line, or handed back where it ends the script
abbrev pub LineTold : Bool → ℕ → Answer → Option (List ℕ) → Option (List ℕ) → Result LinesAnswer Stop → Type 0
LineTold live number answer taken taken' (Ok (All tally)) =
    (taken' ≡ option_map (λ bytes. bytes ++ (script_mark_of number ++ answer.text.items)) taken)
    × (tally ≡ tally_at answer.ending)
LineTold live number answer taken taken' (Ok (Ended last)) = live ≡ false
LineTold live number answer taken taken' (Err e) =
    FrontTaken taken (script_mark_of number ++ answer.text.items) taken'

-- the end of a script
abbrev pub ended_reply : ℕ → ℕ → Reply
ended_reply done refused = record { status = status_by (nat_lt 0 refused); text = ended_text done refused }

-- the lines are done: their turns, the state whose cells are held, the counts
pub record LinesDone (library : LibraryFiles) (lines : List Numbered) (s : State) (w w' : World) (opened' : Contents)
    (tally : Tally) : Type 0 where
  pub turns : TurnsDone (turns_of library lines s) w w'
  pub holds : HoldsState w'.held opened' (after_lines library lines s)
  pub done : tally.done ≡ done_in library lines s
  pub refused : tally.refused ≡ refused_in library lines s

-- over a store that holds the opened cells no line ends a script
abbrev pub LinesEnd : LibraryFiles → List Numbered → State → World → World → Contents → LinesAnswer → Type 0
LinesEnd library lines s w w' opened' (All tally) = LinesDone library lines s w w' opened' tally
LinesEnd library lines s w w' opened' (Ended answer) = ⊥

abbrev pub LinesGo : LibraryFiles → List Numbered → State → World → World → Contents → Result LinesAnswer Stop → Type 0
LinesGo library lines s w w' opened' (Ok answer) = LinesEnd library lines s w w' opened' answer
LinesGo library lines s w w' opened' (Err e) = StopsIn e (turns_of library lines s) w w'

-- where all lines were gone through, the opened database may be used
abbrev pub IsLive : Bool → LinesAnswer → Type 0
IsLive live (All tally) = live ≡ true
IsLive live (Ended answer) = Unit {0}

-- what ends a script finds nothing amiss
abbrev pub EndsPlain : LinesAnswer → Type 0
EndsPlain (All tally) = Unit {0}
EndsPlain (Ended answer) = IsPlain answer

-- and no more of them are counted than this
abbrev pub IsWithin : ℕ → LinesAnswer → Type 0
IsWithin count (All tally) = tally.done + tally.refused ≤ count
IsWithin count (Ended answer) = Unit {0}
