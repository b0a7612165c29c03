-- Adding, replacing and removing, as commands and as lines of a script.
use Rattle.std.specs.Prelude.{ℕ, Bool, true, false, List, [], ◌∷◌, Option, Some, None}
use Rattle.std.specs.FinMap.{get}
use Rattle.terrain_base.specs.declared.cell_key.CellKey.{CellKey}
use Rattle.terrain_base.specs.Library.{LibraryFiles}
use Rattle.terrain_base.specs.Step.{Step}
use Rattle.dted_cell.specs.declared.refusal.CellRefusal.{CellRefusal}
use Rattle.dted_cell.specs.Refusal as cell
use Rattle.cell_mosaic.specs.Summaries.{summaries_of}
use Rattle.cell_mosaic.specs.Whole.{key_in}
use Rattle.availability.specs.Count.{tile_count_of}
use Rattle.tile_deps.specs.Tiles.{touched}
use Rattle.report_text.specs.Refusal.{cell_refusal_of}
use Rattle.top_words.specs.Words.{Edit, Add, Replace, Remove}
use Rattle.database.specs.declared.answer.EngineAnswer.{EngineAnswer}
use Rattle.database.specs.Commands as database
use Rattle.database.specs.Commands.{Command, after, calls, edit_of, key_of, refusal_of}
use Rattle.database.specs.State.{State}
use Rattle.db_files.specs.Serving.{count_existing}
use Rattle.db_report.specs.declared.done.Edited.TheVariants.{Added, Replaced, Removed}
use Rattle.db_report.specs.Done.{edited_line_of}
use Rattle.top_reply.specs.Course.{Course, Turn}
use Rattle.top_reply.specs.File.{Found, Bytes, NoFile, cell_limit, found_in}
use Rattle.top_reply.specs.Reply.{cause_of, done_reply, refused_reply}
use Rattle.top_reply.specs.declared.status.Status.{Status}
use Rattle.top_reply.specs.declared.status.Status.TheVariants as status

-- ---- what is wanted

-- an edit whose file was read: refused, with the cause, or a command on the cells
pub data Wanted : Type 0 where
  Refused : (cause : List ℕ) → Wanted
  Wants : (command : Command) → Wanted

-- by the refusal of the bytes as a cell, if there is one
abbrev pub wanted_by : (CellKey → List ℕ → Command) → List ℕ → Option CellRefusal → Wanted
wanted_by make bytes None = Wants (make (key_in bytes) bytes)
wanted_by make bytes (Some refusal) = Refused (cell_refusal_of refusal)

abbrev pub wanted_of : (CellKey → List ℕ → Command) → Found → Wanted
wanted_of make (Bytes bytes) = wanted_by make bytes (cell.refusal_of bytes)
wanted_of make (NoFile cause) = Refused cause

abbrev pub wanted : Edit → LibraryFiles → Wanted
wanted (Add file) library = wanted_of database.Add (found_in file cell_limit (get library file))
wanted (Replace file) library = wanted_of database.Replace (found_in file cell_limit (get library file))
wanted (Remove key) library = Wants (database.Remove key)

-- ---- what comes of it

-- whether it is refused, its line, its changes of the store with the most tiles that are made for them, and the state
-- after it
pub record EditReply : Type 0 where
  pub refused : Bool
  pub text : List ℕ
  pub steps : List Step
  pub tiles : ℕ
  pub next : State

abbrev pub refused_edit : List ℕ → State → EditReply
refused_edit cause s = record { refused = true; text = (refused_reply cause).text; steps = []; tiles = 0; next = s }

-- how many tiles a database has
abbrev pub tiles_in : State → ℕ
tiles_in s = tile_count_of s.params.cap (summaries_of s.cells)

-- with the state after it
abbrev pub done_line : Command → State → List ℕ
done_line (database.Add key bytes) s = edited_line_of Added key.square (tiles_in s)
done_line (database.Replace key bytes) s = edited_line_of Replaced key.square (tiles_in s)
done_line (database.Remove key) s = edited_line_of Removed key.square (tiles_in s)

abbrev pub done_edit : Command → State → EditReply
done_edit c s = let t = after (edit_of c) s in record {
  refused = false;
  text = (done_reply (done_line c t)).text;
  steps = calls (edit_of c) s;
  tiles = count_existing t (touched s.params.cap (key_of (edit_of c)).square);
  next = t;
}

abbrev pub command_reply_by : Command → State → Option EngineAnswer → EditReply
command_reply_by c s None = done_edit c s
command_reply_by c s (Some answer) = refused_edit (cause_of answer) s

abbrev pub wanted_reply : Wanted → State → EditReply
wanted_reply (Refused cause) s = refused_edit cause s
wanted_reply (Wants c) s = command_reply_by c s (refusal_of c s)

abbrev pub edit_reply : Edit → LibraryFiles → State → EditReply
edit_reply edit library s = wanted_reply (wanted edit library) s

-- ---- as a command

abbrev pub status_by : Bool → Status
status_by true = status.Refused
status_by false = status.Done

abbrev pub edit_turn : EditReply → Turn
edit_turn reply = record { steps = reply.steps; tiles = reply.tiles; text = reply.text }

abbrev pub edit_course : EditReply → Course
edit_course reply = record { status = status_by reply.refused; turns = edit_turn reply ∷ [] }
