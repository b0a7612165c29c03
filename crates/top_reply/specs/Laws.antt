-- What courses and states are held to.
use Rattle.std.specs.Prelude.{◌≡◌, ℕ, List, [], ◌∷◌, ◌++◌, Option, Some, false}
use Rattle.terrain_base.specs.declared.params.Params.{Params}
use Rattle.terrain_base.specs.Library.{LibraryFiles}
use Rattle.terrain_base.specs.Step.{Files, Step}
use Rattle.top_words.specs.Script.{Line, AreLines}
use Rattle.top_words.specs.Words.{Command, Database, DatabaseCommand}
use Rattle.database.specs.Opening.{Opening, OpensAs}
use Rattle.database.specs.State.{State, IsState, AreFiles, StandsFor}
use Rattle.db_engine.specs.Holding.{no_cells}
use Rattle.top_reply.specs.declared.stop.Stop.{Stop}
use Rattle.top_reply.specs.Course.{Course, World, quiet_turn}
use Rattle.top_reply.specs.Good.{IsGoodDatabase}
use Rattle.top_reply.specs.Lines.{commands_of, lines_course}
use Rattle.top_reply.specs.Passed.{Passes, Reaches, StopsBetween}
use Rattle.top_reply.specs.Run.{Arrives, HoldsFilesOf}
use Rattle.top_reply.specs.Told.{StopsTold, lines_told}
use Rattle.top_reply.specs.Top.{HasCourse, IsCourseOf, asks_surface}
use Rattle.top_reply.specs.Valid.{EndsWell, IsValid}

-- a command has one course
abbrev pub OneCourse : Type 0
OneCourse = (meaning : Option Command) (held : Option Files) (library : Option LibraryFiles) (a b : Course)
    → IsCourseOf meaning held library a → IsCourseOf meaning held library b → a ≡ b

-- it reaches one state
abbrev pub OneState : Type 0
OneState = (command : DatabaseCommand) (library : LibraryFiles) (s a b : State)
    → Reaches command library s a → Reaches command library s b → a ≡ b

-- over files that open, each command on a database has a course, whatever the library holds. (That a question about a
-- stored surface has one is said of each run that answers it.)
abbrev pub EachHasCourse : Type 0
EachHasCourse = (command : DatabaseCommand) (files : Files) (library : LibraryFiles) (opening : Opening)
    → asks_surface command ≡ false → OpensAs files opening
    → HasCourse (Some (Database command)) (Some files) (Some library)

-- and it passes states
abbrev pub EachPasses : Type 0
EachPasses = (command : DatabaseCommand) (library : LibraryFiles) (s : State)
    → (states : List State) × Passes command library s states

-- the files of a state are a good database
abbrev pub FilesAreGood : Type 0
FilesAreGood = (s : State) (files : Files) → IsState s → AreFiles files s → IsGoodDatabase s files

-- of a script that is stopped, the whole lines beginning with `line ` that the sink took tell the state
abbrev pub LinesAreTold : (Files → State → Type 0) → Type 0
LinesAreTold Is = (library : LibraryFiles) (bytes : List ℕ) (lines : List Line) (s : State) (states : List State)
    (steps : List Step) (tiles : ℕ) (e : Stop) (w w' : World) (taken more : List ℕ)
    → AreLines bytes lines
    → StopsBetween Is s states (quiet_turn steps tiles ∷ (lines_course library (commands_of 1 lines) s).turns) e w w'
    → w.taken ≡ Some taken → w'.taken ≡ Some (taken ++ more) → StopsTold Is e s states (lines_told more) w'.held

-- the course of a valid call ends well
abbrev pub ValidEndsWell : Type 0
ValidEndsWell = (command : Command) (held : Option Files) (library : Option LibraryFiles) (course : Course)
    → (is : IsCourseOf (Some command) held library course) → IsValid command is.files is.books
    → EndsWell command course.status

-- ---- any number of runs

-- a command, and what the library held when it was run
pub record Ordered : Type 0 where
  pub command : DatabaseCommand
  pub library : LibraryFiles

-- each run was answered: whatever state the files stood for, they are those of the state that it reaches
abbrev pub AllArrive : List Ordered → Files → Files → Type 0
AllArrive [] files files' = files' ≡ files
AllArrive (run ∷ runs) files files' = (mid : Files)
    × ((s : State) → StandsFor files s → Arrives run.command run.library s (Some mid)) × AllArrive runs mid files'

abbrev pub ReachesAll : List Ordered → State → State → Type 0
ReachesAll [] s t = t ≡ s
ReachesAll (run ∷ runs) s t = (mid : State) × Reaches run.command run.library s mid × ReachesAll runs mid t

-- the state that runs reach, whose files are held
pub record AllArrived (runs : List Ordered) (s : State) (files : Files) : Type 0 where
  pub state : State
  pub reached : ReachesAll runs s state
  pub holds : HoldsFilesOf (Some files) state

-- from a beginning on, after any number of answered runs, the files are those of the state after all accepted commands
abbrev pub RunsChain : Type 0
RunsChain = (runs : List Ordered) (params : Params) (files files' : Files)
    → AreFiles files (no_cells params) → AllArrive runs files files' → AllArrived runs (no_cells params) files'
