-- The courses of the commands on a database.
use Rattle.std.specs.Prelude.{◌≡◌, ℕ, List, [], ◌∷◌}
use Rattle.std.specs.FinMap.{get, keys}
use Rattle.terrain_base.specs.declared.name.Key.{Key}
use Rattle.terrain_base.specs.declared.params.Params.{Params}
use Rattle.terrain_base.specs.Library.{LibraryFiles}
use Rattle.terrain_base.specs.Overwrite.{all_changed}
use Rattle.terrain_base.specs.Step.{Files, Step}
use Rattle.top_words.specs.Script.{Line, AreLines}
use Rattle.top_words.specs.Words.{DatabaseCommand, Ask, Change, Apply, Rebuild, Check}
use Rattle.top_words.specs.declared.command.Query.{Query}
use Rattle.database.specs.declared.answer.EngineAnswer.TheVariants as answer
use Rattle.database.specs.Commands.{existing, rebuild_calls, settling}
use Rattle.database.specs.Opening.{Opening, Opens, OldVersion, NotADatabase, InTrouble}
use Rattle.database.specs.State.{State}
use Rattle.db_files.specs.Serving.{count_existing}
use Rattle.db_engine.specs.Holding.{no_cells}
use Rattle.db_engine.specs.Settling.{count_settling}
use Rattle.db_report.specs.Done.{created_line_of, rebuilt_line_of}
use Rattle.top_reply.specs.Check.{IsChecked}
use Rattle.top_reply.specs.Course.{Course, IsSaid, Turn, quiet_turn, said}
use Rattle.top_reply.specs.Edits.{edit_course, edit_reply, tiles_in}
use Rattle.top_reply.specs.File.{Found, Bytes, NoFile, found_in, script_limit}
use Rattle.top_reply.specs.Lines.{commands_of, lines_course}
use Rattle.top_reply.specs.Query.{IsReplyTo}
use Rattle.top_reply.specs.Reply.{cause_of, done_reply, refused_reply}
use Rattle.top_reply.specs.declared.status.Status.TheVariants.{Done}

-- ---- a database begins

abbrev pub created_turn : Params → Files → Turn
created_turn params files = let s = no_cells params in record {
  steps = rebuild_calls files s;
  tiles = count_existing s (existing s);
  text = (done_reply (created_line_of params)).text;
}

-- by the names that are held
abbrev pub init_by : Params → Files → List Key → Course
init_by params files [] = record { status = Done; turns = created_turn params files ∷ [] }
init_by params files (name ∷ names) = said (refused_reply (cause_of (answer.NotEmpty name)))

abbrev pub init_course : Params → Files → Course
init_course params files = init_by params files (keys files)

-- ---- over a database that is settled

-- the files are those that settling left
abbrev pub IsAsked : Query → State → Files → Course → Type 0
IsAsked query s files course = IsSaid (IsReplyTo query s files) course

-- the script's bytes have these lines, and no other
pub record IsScript (library : LibraryFiles) (s : State) (bytes : List ℕ) (course : Course) : Type 0 where
  pub lines : List Line
  pub are : AreLines bytes lines
  pub course_is : course ≡ lines_course library (commands_of 1 lines) s

abbrev pub IsApplied : Found → LibraryFiles → State → Course → Type 0
IsApplied (Bytes bytes) library s course = IsScript library s bytes course
IsApplied (NoFile cause) library s course = course ≡ said (refused_reply cause)

abbrev pub rebuilt_course : State → Files → Course
rebuilt_course s files = record {
  status = Done;
  turns = record {
    steps = rebuild_calls files s;
    tiles = count_existing s (existing s);
    text = (done_reply (rebuilt_line_of (tiles_in s))).text;
  } ∷ [];
}

abbrev pub IsOpenedCourse : DatabaseCommand → LibraryFiles → State → Files → Course → Type 0
IsOpenedCourse (Ask query) library s files course = IsAsked query s files course
IsOpenedCourse (Change edit) library s files course = course ≡ edit_course (edit_reply edit library s)
IsOpenedCourse (Apply script) library s files course =
    IsApplied (found_in script script_limit (get library script)) library s course
IsOpenedCourse Rebuild library s files course = course ≡ rebuilt_course s files
IsOpenedCourse Check library s files course = IsChecked s files course

-- ---- settling comes first

abbrev pub after_settling : List Step → ℕ → Course → Course
after_settling steps tiles course = record { status = course.status; turns = quiet_turn steps tiles ∷ course.turns }

-- files that open as a state are settled, and the rest of the course is over what is left
pub record IsSettledCourse (command : DatabaseCommand) (library : LibraryFiles) (steps : List Step) (tiles : ℕ)
    (s : State) (files : Files) (course : Course) : Type 0 where
  pub rest : Course
  pub rest_is : IsOpenedCourse command library s (all_changed steps files) rest
  pub course_is : course ≡ after_settling steps tiles rest

-- others are refused
abbrev pub IsDatabaseCourse : DatabaseCommand → LibraryFiles → Files → Opening → Course → Type 0
IsDatabaseCourse command library files (Opens s mark) course =
    IsSettledCourse command library (settling mark files s) (count_settling mark s) s files course
IsDatabaseCourse command library files (OldVersion version) course =
    course ≡ said (refused_reply (cause_of (answer.OldVersion version)))
IsDatabaseCourse command library files (NotADatabase line) course =
    course ≡ said (refused_reply (cause_of (answer.NotADatabase line)))
IsDatabaseCourse command library files (InTrouble trouble) course =
    course ≡ said (refused_reply (cause_of (answer.Trouble trouble)))
