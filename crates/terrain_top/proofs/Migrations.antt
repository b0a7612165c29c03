-- How a database is brought to the present version.
use Rattle.std.proofs.Common.{◌≡◌, ℕ, ◌+◌, ◌≤◌, List, [], length, Option, Some, Result, Ok, Err, IfErr, IfOk, refl, sym, ap, subst, ◌∙◌, arith}
use Rattle.terrain_base.specs.declared.store.Change.{Change}
use Rattle.terrain_base.specs.Run.{AllDone, SomeDone}
use Rattle.terrain_base.specs.Step.{Files}
use Rattle.terrain_base.proofs.Runs.{all_some, not_yet, quiet}
use Rattle.cell_mosaic.specs.Summaries.{summaries_of}
use Rattle.manifest_lines.specs.declared.version.Version.{Version}
use Rattle.database.specs.Answer.{IsStop}
use Rattle.database.specs.declared.answer.EngineAnswer.{EngineAnswer}
use Rattle.database.specs.declared.answer.EngineAnswer.TheVariants as answer
use Rattle.database.specs.Commands.{existing}
use Rattle.database.specs.State.{State}
use Rattle.db_files.specs.Serving.{count_existing}
use Rattle.db_engine.specs.Opened.{Contents, contents_of}
use Rattle.db_engine.specs.Settling.{IsIdle}
use Rattle.db_migrate.specs.Migrated.{IsBrought, IsLeft, IsRefusal}
use Rattle.db_migrate.specs.Moves.{migrating}
use Rattle.db_old_reading.specs.OldOpening.{OldOpening, Migrates, NotOld, NotADatabase, InTrouble, MigratesAs}
use Rattle.db_old_reading.specs.OldReads.{OldMark, OldReads}
use Rattle.db_old_reading.proofs.OldOpenings.{one_opening as files_migrate_once}
use Rattle.db_report.specs.Done.{migrated_line_of}
use Rattle.top_reply.specs.declared.stop.Stop.{Stop}
use Rattle.top_reply.specs.Course.{Course, said}
use Rattle.top_reply.specs.Edits.{tiles_in}
use Rattle.top_reply.specs.Migrate.{IsMigrated, migrate_by, migrated_reply}
use Rattle.top_reply.specs.Reply.{cause_of, done_reply, refused_reply}
use Rattle.terrain_top.specs.declared.answer.Answer.{Answer}
use Rattle.terrain_top.specs.EditGoes.{tiles_of}
use Rattle.terrain_top.specs.Effects.{OnlyMemory, StopsBy}
use Rattle.terrain_top.specs.Says.{IsTold, Says}
use Rattle.terrain_top.specs.Told.{HasMigrated}
use Rattle.terrain_top.specs.Turns.{TurnOf}
use Rattle.terrain_top.proofs.EditsGo.{at_memory, at_stop, some_cause, some_line, stop_untold}

-- ---- it is brought

-- the line of what is opened
abbrev pub opened_line : Contents → List ℕ
opened_line o = migrated_line_of (length o.rows) (tiles_of o)

module _ (files : Files) (held held' : Option Files) (log log' : Option (List Change)) (o : Contents) (work work' : ℕ)
    (b : IsBrought files held' o)
    (all : (v : Version) (s : State) (mark : OldMark) → OldReads files v s mark
    → AllDone (migrating v mark files s) held log held' log')
    (few : (v : Version) (s : State) (mark : OldMark) → OldReads files v s mark
    → work' ≤ work + count_existing s (existing s)) where
  as_opened : (result : Result Answer Stop) → IfOk result (Says (done_reply (opened_line o))) → OnlyMemory result
      → TurnOf (migrate_by files (Migrates b.version b.state b.mark)) held held' log log' work work' result
  as_opened (Ok a) says memory = record {
    status_is = says.status;
    text = says.text ∙ ap (λ opened. (done_reply (opened_line opened)).text) b.opened;
    some = some_line (migrated_line_of (length (summaries_of b.state.cells)) (tiles_in b.state));
    steps = all b.version b.state b.mark b.reads;
    tiles = few b.version b.state b.mark b.reads;
  }
  as_opened (Err e) says memory = at_memory (migrating b.version b.mark files b.state) e
      (all_some (all b.version b.state b.mark b.reads)) memory

  pub brought : (course : Course) (result : Result Answer Stop) → IsMigrated files course
      → IfOk result (Says (done_reply (opened_line o))) → OnlyMemory result
      → TurnOf course held held' log log' work work' result
  brought course result of says memory =
      let opening = Migrates b.version b.state b.mark in
      let one = files_migrate_once files of.opening opening of.opens b.reads in
      subst (λ x. TurnOf x held held' log log' work work' result) (sym (of.course_is ∙ ap (migrate_by files) one))
      (as_opened result says memory)

  pub brought_has : HasMigrated files
  brought_has =
      let opening = Migrates b.version b.state b.mark in
      (migrate_by files opening, record { opening = opening; opens = b.reads; course_is = refl })

-- ---- it is not

-- the answer that tells how files open
abbrev told_by : OldOpening → EngineAnswer
told_by (Migrates version s mark) = answer.StoreFault
told_by (NotOld version) = answer.NotOld version
told_by (NotADatabase line) = answer.NotADatabase line
told_by (InTrouble trouble) = answer.Trouble trouble

as_told : (a : Answer) (files : Files) (opening other : OldOpening) → MigratesAs files opening → MigratesAs files other
    → Says (refused_reply (cause_of (told_by other))) a → Says (refused_reply (cause_of (told_by opening))) a
as_told a files opening other is told says =
    subst (λ x. Says (refused_reply (cause_of (told_by x))) a) (sym (files_migrate_once files opening other is told)) says

-- what is told is how they open
tells_opening : (refusal : EngineAnswer) (a : Answer) (files : Files) (opening : OldOpening) (held : Option Files)
    (log log' : Option (List Change)) (work work' : ℕ) → IsRefusal refusal files held log log' work work'
    → MigratesAs files opening → IsTold refusal a → Says (refused_reply (cause_of (told_by opening))) a
tells_opening (answer.CellPresent square level) a files opening held log log' work work' r is t = absurd r
tells_opening (answer.CellAbsent square level) a files opening held log log' work work' r is t = absurd r
tells_opening answer.DatabaseFull a files opening held log log' work work' r is t = absurd r
tells_opening (answer.NotEmpty name) a files opening held log log' work work' r is t = absurd r
tells_opening (answer.NotADatabase line) a files opening held log log' work work' r is t =
    as_told a files opening (NotADatabase line) is r.0 t
tells_opening (answer.Trouble trouble) a files opening held log log' work work' r is t =
    as_told a files opening (InTrouble trouble) is r.0 t
tells_opening (answer.NoTile tile) a files opening held log log' work work' r is t = absurd r
tells_opening (answer.TileLost name) a files opening held log log' work work' r is t = absurd r
tells_opening (answer.OldVersion version) a files opening held log log' work work' r is t = absurd r
tells_opening (answer.NotOld version) a files opening held log log' work work' r is t =
    as_told a files opening (NotOld version) is r.0 t
tells_opening answer.StoreFault a files opening held log log' work work' r is t = absurd t
tells_opening answer.NoMemory a files opening held log log' work work' r is t = absurd t

-- and then they open
has_migrated : (refusal : EngineAnswer) (a : Answer) (files : Files) (held : Option Files) (log log' : Option (List Change))
    (work work' : ℕ) → IsRefusal refusal files held log log' work work' → IsTold refusal a → HasMigrated files
has_migrated (answer.CellPresent square level) a files held log log' work work' r t = absurd r
has_migrated (answer.CellAbsent square level) a files held log log' work work' r t = absurd r
has_migrated answer.DatabaseFull a files held log log' work work' r t = absurd r
has_migrated (answer.NotEmpty name) a files held log log' work work' r t = absurd r
has_migrated (answer.NotADatabase line) a files held log log' work work' r t =
    (migrate_by files (NotADatabase line), record { opening = NotADatabase line; opens = r.0; course_is = refl })
has_migrated (answer.Trouble trouble) a files held log log' work work' r t =
    (migrate_by files (InTrouble trouble), record { opening = InTrouble trouble; opens = r.0; course_is = refl })
has_migrated (answer.NoTile tile) a files held log log' work work' r t = absurd r
has_migrated (answer.TileLost name) a files held log log' work work' r t = absurd r
has_migrated (answer.OldVersion version) a files held log log' work work' r t = absurd r
has_migrated (answer.NotOld version) a files held log log' work work' r t =
    (migrate_by files (NotOld version), record { opening = NotOld version; opens = r.0; course_is = refl })
has_migrated answer.StoreFault a files held log log' work work' r t = absurd t
has_migrated answer.NoMemory a files held log log' work work' r t = absurd t

module _ (files : Files) (held held' : Option Files) (log log' : Option (List Change)) (work work' : ℕ)
    (is : held ≡ Some files) (refusal : EngineAnswer) (refused : IsRefusal refusal files held' log log' work work') where
  idle_turn : (opening : OldOpening) (result : Result Answer Stop) → MigratesAs files opening
      → IsIdle files held' log log' work work' → IfOk result (IsTold refusal) → IfErr result (StopsBy refusal)
      → TurnOf (said (refused_reply (cause_of (told_by opening)))) held held' log log' work work' result
  idle_turn opening (Ok a) opens idle told by =
      let says = tells_opening refusal a files opening held' log log' work work' refused opens told in
      let same = idle.same_work in record {
        status_is = says.status;
        text = says.text;
        some = some_cause (cause_of (told_by opening));
        steps = quiet (idle.same_held ∙ sym is) idle.same_log;
        tiles = omega (arith, same);
      }
  idle_turn opening (Err e) opens idle told by =
      at_stop [] e refusal (not_yet (idle.same_held ∙ sym is) idle.same_log) by

  moving_turn : (v : Version) (s : State) (mark : OldMark) (result : Result Answer Stop) → IsStop refusal
      → SomeDone (migrating v mark files s) held log held' log' → IfOk result (IsTold refusal)
      → IfErr result (StopsBy refusal)
      → TurnOf (migrate_by files (Migrates v s mark)) held held' log log' work work' result
  moving_turn v s mark (Ok a) stop some told by = absurd (stop_untold refusal a stop told)
  moving_turn v s mark (Err e) stop some told by = at_stop (migrating v mark files s) e refusal some by

  by_opening : (opening : OldOpening) (result : Result Answer Stop) → MigratesAs files opening
      → IsLeft {T = Contents} {E = EngineAnswer} opening files held' log log' work work' (Err refusal)
      → ((v : Version) (s : State) (mark : OldMark) → OldReads files v s mark → IsStop refusal)
      → ((v : Version) (s : State) (mark : OldMark) → OldReads files v s mark
      → SomeDone (migrating v mark files s) held log held' log')
      → IfOk result (IsTold refusal) → IfErr result (StopsBy refusal)
      → TurnOf (migrate_by files opening) held held' log log' work work' result
  by_opening (Migrates v s mark) result opens left stop some told by =
      moving_turn v s mark result (stop v s mark opens) (some v s mark opens) told by
  by_opening (NotOld version) result opens left stop some told by =
      idle_turn (NotOld version) result opens left.idle told by
  by_opening (NotADatabase line) result opens left stop some told by =
      idle_turn (NotADatabase line) result opens left.idle told by
  by_opening (InTrouble trouble) result opens left stop some told by =
      idle_turn (InTrouble trouble) result opens left.idle told by

  pub not_brought : (course : Course) (result : Result Answer Stop) → (of : IsMigrated files course)
      → IsLeft {T = Contents} {E = EngineAnswer} of.opening files held' log log' work work' (Err refusal)
      → ((v : Version) (s : State) (mark : OldMark) → OldReads files v s mark → IsStop refusal)
      → ((v : Version) (s : State) (mark : OldMark) → OldReads files v s mark
      → SomeDone (migrating v mark files s) held log held' log')
      → IfOk result (IsTold refusal) → IfErr result (StopsBy refusal)
      → TurnOf course held held' log log' work work' result
  not_brought course result of left stop some told by =
      subst (λ x. TurnOf x held held' log log' work work' result) (sym of.course_is)
      (by_opening of.opening result of.opens left stop some told by)

  pub not_brought_has : (result : Result Answer Stop) → IfOk result (IsTold refusal) → IfOk result (λ a. HasMigrated files)
  not_brought_has (Ok a) told = has_migrated refusal a files held' log log' work work' refused told
  not_brought_has (Err e) told = tt
