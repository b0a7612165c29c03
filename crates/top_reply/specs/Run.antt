-- How a run went.
use Rattle.std.specs.Prelude.{◌≡◌, ◌⊎◌, ℕ, ◌≤◌, List, [], ◌∷◌, Option, Some, None, IsSomeAnd}
use Rattle.std.specs.FinMap.{keys}
use Rattle.terrain_base.specs.Cause.{Rose}
use Rattle.terrain_base.specs.Library.{LibraryFiles}
use Rattle.terrain_base.specs.Overwrite.{all_changed}
use Rattle.terrain_base.specs.Run.{SomeDone}
use Rattle.terrain_base.specs.Sink.{FrontTaken}
use Rattle.terrain_base.specs.Step.{Files}
use Rattle.db_manifest.specs.Manifest.{ManifestState}
use Rattle.manifest_lines.specs.declared.version.Version.{Version}
use Rattle.db_old_reading.specs.OldReads.{OldReadsFor}
use Rattle.top_words.specs.Words.{DatabaseCommand, Command, Init, Database, ReadCell, Audit, Migrate, Convert, Trial}
use Rattle.database.specs.Commands.{settling}
use Rattle.database.specs.State.{State, IsState, AreFiles, ReadsAs, ReadsFor, StandsMarked, StandsFor}
use Rattle.db_engine.specs.Holding.{no_cells}
use Rattle.db_engine.specs.Settling.{count_settling}
use Rattle.top_reply.specs.declared.status.Status.{Status}
use Rattle.top_reply.specs.declared.stop.Stop.{Stop}
use Rattle.top_reply.specs.Course.{Course, World, quiet_turn, steps_of, turns_text}
use Rattle.top_reply.specs.Database.{IsOpenedCourse}
use Rattle.top_reply.specs.File.{HoldsBytes}
use Rattle.top_reply.specs.Good.{IsGoodDatabase}
use Rattle.top_reply.specs.Passed.{Passes, Reaches, StopsBetween}
use Rattle.top_reply.specs.Status.{IsAnswer, stop_of}
use Rattle.top_reply.specs.Top.{Tells, database_reads}

-- ---- the headline

-- the files that are held are byte for byte those of the state, and all their tiles are good
pub record HoldsFilesOf (held : Option Files) (s : State) : Type 0 where
  pub files : Files
  pub held_is : held ≡ Some files
  pub state : IsState s
  pub are : AreFiles files s
  pub good : IsGoodDatabase s files

-- they are those of the state after the accepted commands
pub record Arrives (command : DatabaseCommand) (library : LibraryFiles) (s : State) (held : Option Files) : Type 0 where
  pub state : State
  pub reached : Reaches command library s state
  pub holds : HoldsFilesOf held state

-- After any accepted list of adding, replacing and removing cells, begun on files that stand for a state, the files are
-- those of a build from scratch, and every tile is good. The same of a rebuilding, of questions, of a beginning, and of
-- a migration of files that read as the state by an older version.
abbrev pub Headline : Option Command → Option Files → Option LibraryFiles → Option Files → Status → Type 0
Headline None held library held' status = Unit {0}
Headline (Some (Init params)) held library held' status = (files : Files)
    → held ≡ Some files → keys files ≡ [] → IsAnswer status → HoldsFilesOf held' (no_cells params)
Headline (Some (Database command)) held library held' status = (files : Files) (books : LibraryFiles) (s : State)
    → held ≡ Some files → Tells (database_reads command) library books → HoldsBytes books → StandsFor files s
    → IsAnswer status → Arrives command books s held'
Headline (Some (ReadCell file)) held library held' status = Unit {0}
Headline (Some (Audit file)) held library held' status = Unit {0}
Headline (Some Migrate) held library held' status = (files : Files) (version : Version) (s : State)
    → held ≡ Some files → OldReadsFor files version s → IsAnswer status → HoldsFilesOf held' s
Headline (Some (Convert file)) held library held' status = Unit {0}
Headline (Some (Trial count number)) held library held' status = Unit {0}

-- ---- stops

abbrev pub OnStopBy : Option Stop → (Stop → Type 0) → Type 0
OnStopBy None P = Unit {0}
OnStopBy (Some stop) P = P stop

-- if anything stopped the run
abbrev pub OnStop : Status → (Stop → Type 0) → Type 0
OnStop status P = OnStopBy (stop_of status) P

-- the log grew by some first changes of the course, and the sink took some first bytes of its text
pub record IsFrontOf (course : Course) (w w' : World) : Type 0 where
  pub changes : SomeDone (steps_of course.turns) w.held w.log w'.held w'.log
  pub text : FrontTaken w.taken (turns_text course.turns) w'.taken

-- files of a state that were settled first: they are those of a state that the command passes, as `Is` says
abbrev pub StopsFrom : (Files → State → Type 0) → DatabaseCommand → LibraryFiles → State → ManifestState → Files
    → World → World → Status → Type 0
StopsFrom Is command library s mark files w w' status = let steps = settling mark files s in
    (rest : Course) (states : List State)
    → IsOpenedCourse command library s (all_changed steps files) rest → Passes command library s states
    → OnStop status (λ e. StopsBetween Is s states (quiet_turn steps (count_settling mark s) ∷ rest.turns) e w w')

-- Over files that stand for a state, a stop leaves files that stand for one that the command passes. A beginning that
-- is stopped leaves nothing, or files that stand for no cells; a migration files that still read as the state by their
-- older version, or that stand for it.
abbrev pub StopsStanding : Option Command → Option Files → Option LibraryFiles → World → World → Status → Type 0
StopsStanding None held library w w' status = Unit {0}
StopsStanding (Some (Init params)) held library w w' status = (files : Files)
    → held ≡ Some files → keys files ≡ []
    → OnStop status (λ e. IsSomeAnd w'.held (λ held'. (keys held' ≡ []) ⊎ StandsFor held' (no_cells params)))
StopsStanding (Some (Database command)) held library w w' status =
    (files : Files) (books : LibraryFiles) (s : State) (mark : ManifestState)
    → held ≡ Some files → Tells (database_reads command) library books → HoldsBytes books → StandsMarked files s mark
    → StopsFrom StandsFor command books s mark files w w' status
StopsStanding (Some (ReadCell file)) held library w w' status = Unit {0}
StopsStanding (Some (Audit file)) held library w w' status = Unit {0}
StopsStanding (Some Migrate) held library w w' status = (files : Files) (version : Version) (s : State)
    → held ≡ Some files → OldReadsFor files version s
    → OnStop status (λ e. IsSomeAnd w'.held (λ held'. OldReadsFor held' version s ⊎ StandsFor held' s))
StopsStanding (Some (Convert file)) held library w w' status = Unit {0}
StopsStanding (Some (Trial count number)) held library w w' status = Unit {0}

-- and over files that only read as a state it leaves files that read as one
abbrev pub StopsReading : Option Command → Option Files → Option LibraryFiles → World → World → Status → Type 0
StopsReading None held library w w' status = Unit {0}
StopsReading (Some (Init params)) held library w w' status = Unit {0}
StopsReading (Some (Database command)) held library w w' status =
    (files : Files) (books : LibraryFiles) (s : State) (mark : ManifestState)
    → held ≡ Some files → Tells (database_reads command) library books → HoldsBytes books → ReadsAs files s mark
    → StopsFrom ReadsFor command books s mark files w w' status
StopsReading (Some (ReadCell file)) held library w w' status = Unit {0}
StopsReading (Some (Audit file)) held library w w' status = Unit {0}
StopsReading (Some Migrate) held library w w' status = Unit {0}
StopsReading (Some (Convert file)) held library w w' status = Unit {0}
StopsReading (Some (Trial count number)) held library w w' status = Unit {0}

-- ---- faults

-- the object's count of faults never falls, and the run ends with its fault only where it rose
pub record FaultHasCause (fault : Status) (before now : ℕ) (status : Status) : Type 0 where
  pub later : before ≤ now
  pub rose : status ≡ fault → Rose before now
