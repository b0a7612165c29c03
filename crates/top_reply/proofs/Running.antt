-- What follows of a run from its course.
use Rattle.std.proofs.Common.{◌≡◌, ◌⊎◌, List, [], ◌∷◌, take, Option, Some, None, refl, sym, ap, subst, ◌∙◌, inl, inr}
use Rattle.std.specs.Prelude.{IsSomeAnd}
use Rattle.std.specs.FinMap.{empty, keys}
use Rattle.terrain_base.specs.declared.params.Params.{Params}
use Rattle.terrain_base.specs.Library.{LibraryFiles}
use Rattle.terrain_base.specs.Overwrite.{all_changed}
use Rattle.terrain_base.specs.Step.{Files}
use Rattle.manifest_lines.specs.declared.state.State.TheVariants.{Closed}
use Rattle.db_manifest.specs.Manifest.{ManifestState}
use Rattle.manifest_lines.specs.declared.version.Version.{Version}
use Rattle.top_words.specs.declared.command.Query.{Query}
use Rattle.top_words.specs.Words.{DatabaseCommand, Ask, Change, Apply, Rebuild, Check, Command, Init, Database, ReadCell, Audit, Migrate, Convert, Trial}
use Rattle.database.specs.Commands.{rebuild_calls, settling}
use Rattle.database.specs.Opening.{Opens, OpensAs}
use Rattle.database.specs.State.{State, AreFiles, ReadsAs, ReadsFor, StandsFor}
use Rattle.database.proofs.Openings.{one_opening}
use Rattle.database.proofs.Starting.{calls_end, calls_stand, files_stand}
use Rattle.db_engine.specs.Holding.{no_cells}
use Rattle.db_engine.specs.Settling.{count_settling}
use Rattle.db_engine.proofs.Starts.{no_state}
use Rattle.top_reply.specs.declared.status.Status.{Status}
use Rattle.top_reply.specs.declared.status.Status.TheVariants as status
use Rattle.top_reply.specs.declared.stop.Stop.{Stop}
use Rattle.top_reply.specs.Course.{Answered, Course, Goes, GoesBy, StopsIn, World, quiet_turn}
use Rattle.db_migrate.specs.Moves.{migrating}
use Rattle.db_old_reading.specs.OldOpening.{Migrates}
use Rattle.db_old_reading.specs.OldReads.{OldMark, OldReads, OldReadsFor}
use Rattle.db_migrate.proofs.Bringing.{fronts as migrating_fronts, ends as migrating_ends}
use Rattle.top_reply.specs.Migrate.{migrate_by, migrated_turn}
use Rattle.top_reply.specs.Database.{IsAsked, IsDatabaseCourse, IsOpenedCourse, after_settling, created_turn, init_by}
use Rattle.top_reply.specs.File.{HoldsBytes}
use Rattle.top_reply.specs.Laws.{AllArrive, AllArrived, FilesAreGood, Ordered}
use Rattle.top_reply.specs.Passed.{StopsBetween}
use Rattle.top_reply.specs.Run.{Headline, HoldsFilesOf, IsFrontOf, OnStop, OnStopBy, StopsFrom, StopsReading, StopsStanding}
use Rattle.top_reply.specs.Status.{IsAnswer, stop_of}
use Rattle.top_reply.specs.Top.{HasCourse, IsCourseOf, Tells, database_reads, reads_file, touches_store}
use Rattle.top_reply.proofs.Betweens.{AreKept, AreSettled, ReadClosed, passage, read_kept, settled_path, settling_stands, settling_still_reads, stand_kept}
use Rattle.top_reply.proofs.Courses.{some_first}
use Rattle.top_reply.proofs.EachCourse.{has_opened}
use Rattle.top_reply.proofs.Paths.{Leads, Path, last_of, run_ends, run_stops, stop_among}

-- it goes as the course, whichever the course is
abbrev pub GoesAll : Option Command → Option Files → Option LibraryFiles → World → World → Status → Type 0
GoesAll meaning held library w w' status =
    (course : Course) → IsCourseOf meaning held library course → Goes course w w' status

-- ---- answers and stops

-- an answer is given behind all turns
answered : (course : Course) (w w' : World) (s : Status) → IsAnswer s → Goes course w w' s → Answered course w w' s
answered course w w' status.Done is goes = goes
answered course w w' status.Refused is goes = goes
answered course w w' status.Usage is goes = goes
answered course w w' status.InputFault is goes = absurd is
answered course w w' status.StoreFault is goes = absurd is
answered course w w' status.OutputFault is goes = absurd is
answered course w w' status.NoMemory is goes = absurd is
answered course w w' status.Found is goes = goes

on_stop : (course : Course) (w w' : World) (s : Status) (P : Stop → Type 0) (stop : Option Stop)
    → ((e : Stop) → StopsIn e course.turns w w' → P e) → GoesBy course w w' s stop → OnStopBy stop P
on_stop course w w' s P None each goes = tt
on_stop course w w' s P (Some e) each goes = each e goes

pub fronts : (meaning : Option Command) (held : Option Files) (library : Option LibraryFiles)
    (w w' : World) (s : Status) → GoesAll meaning held library w w' s
    → (course : Course) → IsCourseOf meaning held library course → OnStop s (λ e. IsFrontOf course w w')
fronts meaning held library w w' s goes course is =
    on_stop course w w' s (λ e. IsFrontOf course w w') (stop_of s)
    (λ e at. let first = some_first at in record { changes = first.0; text = first.1 }) (goes course is)

-- ---- the course over files that read as a state

opened_course : (command : DatabaseCommand) (held : Option Files) (library : Option LibraryFiles) (files : Files)
    (books : LibraryFiles) (s : State) (mark : ManifestState) (rest : Course) → held ≡ Some files
    → Tells (database_reads command) library books → ReadsAs files s mark
    → IsOpenedCourse command books s (all_changed (settling mark files s) files) rest
    → IsCourseOf (Some (Database command)) held library
    (after_settling (settling mark files s) (count_settling mark s) rest)
opened_course command held library files books s mark rest is tells reads rest_is = record {
  files = files;
  books = books;
  opening = Opens s mark;
  store_tells = is;
  library_tells = tells;
  opens = reads;
  is = record { rest = rest; rest_is = rest_is; course_is = refl };
}

-- where it stops, as the one or the other says
module _ (Is Ends : Files → State → Type 0) (kept : AreKept Is Ends) (command : DatabaseCommand)
    (held : Option Files) (library : Option LibraryFiles) (w w' : World) (status : Status) (same : w.held ≡ held)
    (goes : GoesAll (Some (Database command)) held library w w' status)
    (files : Files) (books : LibraryFiles) (s : State) (mark : ManifestState) (is : held ≡ Some files)
    (tells : Tells (database_reads command) library books) (holds : HoldsBytes books) (reads : ReadsAs files s mark)
    (leads : Leads Is (settling mark files s) files s s × Ends (all_changed (settling mark files s) files) s) where
  stops_from : StopsFrom Is command books s mark files w w' status
  stops_from = λ rest states rest_is passes.
      let steps = settling mark files s in
      let tiles = count_settling mark s in
      on_stop (after_settling steps tiles rest) w w' status
      (λ e. StopsBetween Is s states (quiet_turn steps tiles ∷ rest.turns) e w w') (stop_of status)
      (λ e at. run_stops Is Ends e steps tiles rest.turns s states files w w'
      (settled_path Is Ends kept command books holds s files steps tiles leads rest states rest_is passes)
      (same ∙ is) at)
      (goes (after_settling steps tiles rest)
      (opened_course command held library files books s mark rest is tells reads rest_is))

-- ---- a beginning

begun_course : (params : Params) (held : Option Files) (library : Option LibraryFiles) (files : Files)
    → held ≡ Some files → keys files ≡ []
    → IsCourseOf (Some (Init params)) held library
    (record { status = status.Done; turns = created_turn params files ∷ [] })
begun_course params held library files is none = record {
  files = files;
  books = empty;
  opening = Opens (no_cells params) Closed;
  store_tells = is;
  library_tells = tt;
  opens = tt;
  is = sym (ap (init_by params files) none);
}

-- nothing is held, or files that stand for no cells
abbrev NoneOrStands : Params → Files → State → Type 0
NoneOrStands params files s = (keys files ≡ []) ⊎ StandsFor files (no_cells params)

abbrev AreBegun : Params → Files → State → Type 0
AreBegun params files s = AreSettled files (no_cells params)

begun_still : (params : Params) (files now : Files) → keys files ≡ []
    → (now ≡ files) ⊎ StandsFor now (no_cells params) → (keys now ≡ []) ⊎ StandsFor now (no_cells params)
begun_still params files now none (inl same) = inl (ap keys same ∙ none)
begun_still params files now none (inr stands) = inr stands

begun_path : (params : Params) (files : Files) → keys files ≡ []
    → Path (NoneOrStands params) (AreBegun params) files (no_cells params) (created_turn params files ∷ [])
    (no_cells params ∷ [])
begun_path params files none =
    let s = no_cells params in
    let steps = rebuild_calls files s in
    let held = no_state params files in
    let ended = calls_end s files held in (
      record {
        begins = inl none;
        fronts = λ n le. inl
            (begun_still params files (all_changed (take n steps) files) none (calls_stand s files held n le));
        ends = inr (record { mark = Closed; stands = files_stand s (all_changed steps files) held.state ended });
      },
      (ended, held.state),
    )

begun_stops : (params : Params) (held : Option Files) (library : Option LibraryFiles) (w w' : World) (s : Status)
    → w.held ≡ held → GoesAll (Some (Init params)) held library w w' s
    → StopsStanding (Some (Init params)) held library w w' s
begun_stops params held library w w' s same goes = λ files is none.
    let course : Course = record { status = status.Done; turns = created_turn params files ∷ [] } in
    on_stop course w w' s
    (λ e. IsSomeAnd w'.held (λ now. (keys now ≡ []) ⊎ StandsFor now (no_cells params))) (stop_of s)
    (λ e at. stop_among (NoneOrStands params) (AreBegun params)
    (λ now. (keys now ≡ []) ⊎ StandsFor now (no_cells params)) (λ now t holds. holds) e course.turns (no_cells params) (no_cells params ∷ []) files w w'
    (begun_path params files none) (same ∙ is) at)
    (goes course (begun_course params held library files is none))

-- ---- a migration

-- the files read as the state by its old version, or stand for it
abbrev OldOrStands : Version → State → Files → State → Type 0
OldOrStands version t files s = OldReadsFor files version t ⊎ StandsFor files t

abbrev AreBrought : State → Files → State → Type 0
AreBrought t files s = AreSettled files t

migrated_path : (files : Files) (version : Version) (t : State) (mark : OldMark) → OldReads files version t mark
    → Path (OldOrStands version t) (AreBrought t) files t (migrated_turn version mark files t ∷ []) (t ∷ [])
migrated_path files version t mark reads =
    let steps = migrating version mark files t in
    let ends = migrating_ends files version t mark reads in (
      record {
        begins = inl (record { mark = mark; reads = reads });
        fronts = λ n le. inl (migrating_fronts files version t mark reads n le);
        ends = inr (record { mark = Closed; stands = files_stand t (all_changed steps files) reads.state ends });
      },
      (ends, reads.state),
    )

migrated_course : (files : Files) (version : Version) (t : State) (mark : OldMark) → Course
migrated_course files version t mark = migrate_by files (Migrates version t mark)

is_migrated_course : (held : Option Files) (library : Option LibraryFiles) (files : Files) (version : Version) (t : State)
    (mark : OldMark) → held ≡ Some files → OldReads files version t mark
    → IsCourseOf (Some Migrate) held library (migrated_course files version t mark)
unfolding migrated_course
is_migrated_course held library files version t mark is reads = record {
  files = files;
  books = empty;
  opening = Opens t Closed;
  store_tells = is;
  library_tells = tt;
  opens = tt;
  is = record { opening = Migrates version t mark; opens = reads; course_is = refl };
}

migrated_stops : (held : Option Files) (library : Option LibraryFiles) (w w' : World) (s : Status) → w.held ≡ held
    → GoesAll (Some Migrate) held library w w' s → StopsStanding (Some Migrate) held library w w' s
unfolding migrated_course
migrated_stops held library w w' s same goes = λ files version t is old.
    let course = migrated_course files version t old.mark in
    on_stop course w w' s
    (λ e. IsSomeAnd w'.held (λ now. OldReadsFor now version t ⊎ StandsFor now t)) (stop_of s)
    (λ e at. stop_among (OldOrStands version t) (AreBrought t)
    (λ now. OldReadsFor now version t ⊎ StandsFor now t) (λ now u holds. holds) e course.turns t (t ∷ []) files w w'
    (migrated_path files version t old.mark old.reads) (same ∙ is) at)
    (goes course (is_migrated_course held library files version t old.mark is old.reads))

-- ---- where it stops

pub stops_standing : (meaning : Option Command) (held : Option Files) (library : Option LibraryFiles)
    (w w' : World) (s : Status) → w.held ≡ held → GoesAll meaning held library w w' s
    → StopsStanding meaning held library w w' s
stops_standing None held library w w' s same goes = tt
stops_standing (Some (Init params)) held library w w' s same goes = begun_stops params held library w w' s same goes
stops_standing (Some (Database command)) held library w w' s same goes = λ files books t mark is tells holds stands.
    stops_from StandsFor AreSettled stand_kept command held library w w' s same goes files books t mark is tells holds
    stands.reads (settling_stands t mark files stands)
stops_standing (Some (ReadCell file)) held library w w' s same goes = tt
stops_standing (Some (Audit file)) held library w w' s same goes = tt
stops_standing (Some Migrate) held library w w' s same goes = migrated_stops held library w w' s same goes
stops_standing (Some (Convert file)) held library w w' s same goes = tt
stops_standing (Some (Trial count number)) held library w w' s same goes = tt

pub stops_reading : (meaning : Option Command) (held : Option Files) (library : Option LibraryFiles)
    (w w' : World) (s : Status) → w.held ≡ held → GoesAll meaning held library w w' s
    → StopsReading meaning held library w w' s
stops_reading None held library w w' s same goes = tt
stops_reading (Some (Init params)) held library w w' s same goes = tt
stops_reading (Some (Database command)) held library w w' s same goes = λ files books t mark is tells holds reads.
    stops_from ReadsFor ReadClosed read_kept command held library w w' s same goes files books t mark is tells holds
    reads (settling_still_reads t mark files reads)
stops_reading (Some (ReadCell file)) held library w w' s same goes = tt
stops_reading (Some (Audit file)) held library w w' s same goes = tt
stops_reading (Some Migrate) held library w w' s same goes = tt
stops_reading (Some (Convert file)) held library w w' s same goes = tt
stops_reading (Some (Trial count number)) held library w w' s same goes = tt

-- ---- the headline

holds_of : FilesAreGood → (s : State) (held : Option Files) (now : Files) → held ≡ Some now → AreSettled now s
    → HoldsFilesOf held s
holds_of good s held now is settled = record {
  files = now;
  held_is = is;
  state = settled.1;
  are = settled.0;
  good = good s now settled.1 settled.0;
}

begun_holds : FilesAreGood → (params : Params) (held : Option Files) (library : Option LibraryFiles) (w w' : World)
    (s : Status) → w.held ≡ held → GoesAll (Some (Init params)) held library w w' s
    → Headline (Some (Init params)) held library w'.held s
begun_holds good params held library w w' s same goes = λ files is none answer.
    let course : Course = record { status = status.Done; turns = created_turn params files ∷ [] } in
    let done = answered course w w' s answer (goes course (begun_course params held library files is none)) in
    let ends = run_ends (NoneOrStands params) (AreBegun params) course.turns (no_cells params) (no_cells params ∷ [])
    files w w' (begun_path params files none) (same ∙ is) done.turns in
    holds_of good (no_cells params) w'.held ends.0 ends.1 ends.2

migrated_holds : FilesAreGood → (held : Option Files) (library : Option LibraryFiles) (w w' : World) (s : Status)
    → w.held ≡ held → GoesAll (Some Migrate) held library w w' s → Headline (Some Migrate) held library w'.held s
unfolding migrated_course
migrated_holds good held library w w' s same goes = λ files version t is old answer.
    let course = migrated_course files version t old.mark in
    let done = answered course w w' s answer
    (goes course (is_migrated_course held library files version t old.mark is old.reads)) in
    let ends = run_ends (OldOrStands version t) (AreBrought t) course.turns t (t ∷ []) files w w'
    (migrated_path files version t old.mark old.reads) (same ∙ is) done.turns in
    holds_of good t w'.held ends.0 ends.1 ends.2

-- over objects that tell what they hold an answer has a course
abbrev pub AnswersBy : Option Command → Option Files → Option LibraryFiles → Status → Type 0
AnswersBy meaning held library s = (files : Files) (books : LibraryFiles) → Tells (touches_store meaning) held files
    → Tells (reads_file meaning) library books → IsAnswer s → HasCourse meaning held library

-- over the settled database a question has the rest of its course
asked_opened : (query : Query) (held : Option Files) (library : Option LibraryFiles) (files : Files) (t : State)
    (mark : ManifestState) → held ≡ Some files → ReadsAs files t mark
    → HasCourse (Some (Database (Ask query))) held library
    → (course : Course) × IsAsked query t (all_changed (settling mark files t) files) course
asked_opened query held library files t mark is reads has =
    let of = has.is in
    let same : of.files ≡ files = cc (sym of.store_tells ∙ is) in
    let opens = subst (λ now. OpensAs now of.opening) same of.opens in
    let one : of.opening ≡ Opens t mark = one_opening files of.opening (Opens t mark) opens reads in
    let here = subst (λ now. IsDatabaseCourse (Ask query) of.books now of.opening has.course) same of.is in
    let settled = subst (λ opening. IsDatabaseCourse (Ask query) of.books files opening has.course) one here in
    (settled.rest, settled.rest_is)

-- a command has it
some_opened : (command : DatabaseCommand) (held : Option Files) (library : Option LibraryFiles) (files : Files)
    (books : LibraryFiles) (t : State) (mark : ManifestState) → held ≡ Some files → ReadsAs files t mark
    → HasCourse (Some (Database command)) held library
    → (course : Course) × IsOpenedCourse command books t (all_changed (settling mark files t) files) course
some_opened (Ask query) held library files books t mark is reads has =
    asked_opened query held library files t mark is reads has
some_opened (Change edit) held library files books t mark is reads has = has_opened (Change edit) books t (all_changed (settling mark files t) files) refl
some_opened (Apply script) held library files books t mark is reads has = has_opened (Apply script) books t (all_changed (settling mark files t) files) refl
some_opened Rebuild held library files books t mark is reads has = has_opened Rebuild books t (all_changed (settling mark files t) files) refl
some_opened Check held library files books t mark is reads has = has_opened Check books t (all_changed (settling mark files t) files) refl

database_arrives : FilesAreGood → (command : DatabaseCommand) (held : Option Files) (library : Option LibraryFiles)
    (w w' : World) (s : Status) → w.held ≡ held → GoesAll (Some (Database command)) held library w w' s
    → AnswersBy (Some (Database command)) held library s → Headline (Some (Database command)) held library w'.held s
database_arrives good command held library w w' s same goes by = λ files books t is tells holds stands answer.
    let mark = stands.mark in
    let reads = stands.stands.reads in
    let steps = settling mark files t in
    let tiles = count_settling mark t in
    let rest = some_opened command held library files books t mark is reads (by files books is tells answer) in
    let course = after_settling steps tiles rest.0 in
    let passage = passage command books t (all_changed steps files) rest.0 rest.1 in
    let done = answered course w w' s answer
    (goes course (opened_course command held library files books t mark rest.0 is tells reads rest.1)) in
    let ends = run_ends StandsFor AreSettled course.turns t (t ∷ passage.states) files w w'
    (settled_path StandsFor AreSettled stand_kept command books holds t files steps tiles
    (settling_stands t mark files stands.stands) rest.0 passage.states rest.1 passage.passes)
    (same ∙ is) done.turns in
    record {
      state = last_of t passage.states;
      reached = passage.reaches;
      holds = holds_of good (last_of t passage.states) w'.held ends.0 ends.1 ends.2;
    }

pub headline : FilesAreGood → (meaning : Option Command) (held : Option Files) (library : Option LibraryFiles)
    (w w' : World) (s : Status) → w.held ≡ held → GoesAll meaning held library w w' s
    → AnswersBy meaning held library s → Headline meaning held library w'.held s
headline good None held library w w' s same goes by = tt
headline good (Some (Init params)) held library w w' s same goes by =
    begun_holds good params held library w w' s same goes
headline good (Some (Database command)) held library w w' s same goes by =
    database_arrives good command held library w w' s same goes by
headline good (Some (ReadCell file)) held library w w' s same goes by = tt
headline good (Some (Audit file)) held library w w' s same goes by = tt
headline good (Some Migrate) held library w w' s same goes by =
    migrated_holds good held library w w' s same goes
headline good (Some (Convert file)) held library w w' s same goes by = tt
headline good (Some (Trial count number)) held library w w' s same goes by = tt

-- ---- any number of runs

held_stands : (s : State) (files : Files) → HoldsFilesOf (Some files) s → StandsFor files s
held_stands s files holds =
    let same : holds.files ≡ files = cc (sym holds.held_is) in
    subst (λ now. StandsFor now s) same
    (record { mark = Closed; stands = files_stand s holds.files holds.state holds.are })

chained : (runs : List Ordered) (s : State) (files files' : Files) → HoldsFilesOf (Some files) s
    → AllArrive runs files files' → AllArrived runs s files'
chained [] s files files' holds all =
    record { state = s; reached = refl; holds = subst (λ now. HoldsFilesOf (Some now) s) (sym all) holds }
chained (run ∷ runs) s files files' holds all =
    let first = all.1 s (held_stands s files holds) in
    let rest = chained runs first.state all.0 files' first.holds all.2 in
    record { state = rest.state; reached = (first.state, first.reached, rest.reached); holds = rest.holds }

pub runs_chained : FilesAreGood → (runs : List Ordered) (params : Params) (files files' : Files)
    → AreFiles files (no_cells params) → AllArrive runs files files' → AllArrived runs (no_cells params) files'
runs_chained good runs params files files' are all =
    chained runs (no_cells params) files files'
    (holds_of good (no_cells params) (Some files) files refl (are, (no_state params files).state)) all
