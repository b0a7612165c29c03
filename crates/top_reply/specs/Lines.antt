-- What the lines of a script come to.
use Rattle.std.specs.Prelude.{ℕ, ◌+◌, List, [], ◌∷◌, ◌++◌, codes, Option, Some, None, cond, nat_lt}
use Rattle.terrain_base.specs.Library.{LibraryFiles}
use Rattle.report_text.specs.Words.{joined}
use Rattle.top_words.specs.Script.{Line, Passed, Change, NoCommand}
use Rattle.top_words.specs.Words.{Edit}
use Rattle.database.specs.State.{State}
use Rattle.db_report.specs.Done.{script_line_of, script_mark_of}
use Rattle.top_reply.specs.Course.{Course, Turn, text_turn}
use Rattle.top_reply.specs.Edits.{EditReply, Wanted, Refused, status_by, wanted, wanted_reply}

-- a command line with its number; no edit where it has none of the forms
pub record Numbered : Type 0 where
  pub number : ℕ
  pub edit : Option Edit

-- of lines whose first has this number, those that are not passed over
abbrev pub commands_of : ℕ → List Line → List Numbered
commands_of number [] = []
commands_of number (Passed ∷ lines) = commands_of (number + 1) lines
commands_of number (Change edit ∷ lines) = record { number = number; edit = Some edit } ∷ commands_of (number + 1) lines
commands_of number (NoCommand ∷ lines) = record { number = number; edit = None } ∷ commands_of (number + 1) lines

abbrev pub wanted_at : Option Edit → LibraryFiles → Wanted
wanted_at None library = Refused (codes "F3 not a command")
wanted_at (Some edit) library = wanted edit library

abbrev pub line_reply : LibraryFiles → Numbered → State → EditReply
line_reply library line s = wanted_reply (wanted_at line.edit library) s

-- a line's changes, and then what is printed of it
abbrev pub turn_by : ℕ → EditReply → Turn
turn_by number reply = record {
  steps = reply.steps;
  tiles = reply.tiles;
  text = script_mark_of number ++ reply.text;
}

abbrev pub turns_of : LibraryFiles → List Numbered → State → List Turn
turns_of library [] s = []
turns_of library (line ∷ lines) s =
    turn_by line.number (line_reply library line s) ∷ turns_of library lines (line_reply library line s).next

-- ---- over all lines

-- the state after them
abbrev pub after_lines : LibraryFiles → List Numbered → State → State
after_lines library [] s = s
after_lines library (line ∷ lines) s = after_lines library lines (line_reply library line s).next

-- the states after each of them
abbrev pub states_of : LibraryFiles → List Numbered → State → List State
states_of library [] s = []
states_of library (line ∷ lines) s =
    (line_reply library line s).next ∷ states_of library lines (line_reply library line s).next

-- how many are refused, and how many are not
abbrev pub refused_in : LibraryFiles → List Numbered → State → ℕ
refused_in library [] s = 0
refused_in library (line ∷ lines) s =
    cond (line_reply library line s).refused 1 0 + refused_in library lines (line_reply library line s).next

abbrev pub done_in : LibraryFiles → List Numbered → State → ℕ
done_in library [] s = 0
done_in library (line ∷ lines) s =
    cond (line_reply library line s).refused 0 1 + done_in library lines (line_reply library line s).next

-- the last line of the report
abbrev pub ended_text : ℕ → ℕ → List ℕ
ended_text done refused = joined (script_line_of done refused ∷ codes "\n" ∷ [])

abbrev pub lines_course : LibraryFiles → List Numbered → State → Course
lines_course library lines s = record {
  status = status_by (nat_lt 0 (refused_in library lines s));
  turns = turns_of library lines s
      ++ text_turn (ended_text (done_in library lines s) (refused_in library lines s)) ∷ [];
}
