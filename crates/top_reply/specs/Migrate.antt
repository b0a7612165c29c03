-- The course of `migrate`.
use Rattle.std.specs.Prelude.{◌≡◌, List, [], ◌∷◌, length}
use Rattle.terrain_base.specs.Step.{Files}
use Rattle.cell_mosaic.specs.Summaries.{summaries_of}
use Rattle.manifest_lines.specs.declared.version.Version.{Version}
use Rattle.database.specs.declared.answer.EngineAnswer.TheVariants as answer
use Rattle.database.specs.Commands.{existing}
use Rattle.database.specs.State.{State}
use Rattle.db_files.specs.Serving.{count_existing}
use Rattle.db_migrate.specs.Moves.{migrating}
use Rattle.db_old_reading.specs.OldOpening.{OldOpening, Migrates, NotOld, NotADatabase, InTrouble, MigratesAs}
use Rattle.db_old_reading.specs.OldReads.{OldMark, OldReads}
use Rattle.db_report.specs.Done.{migrated_line_of}
use Rattle.top_reply.specs.Course.{Course, Turn, said}
use Rattle.top_reply.specs.Edits.{tiles_in}
use Rattle.top_reply.specs.Reply.{Reply, cause_of, done_reply, refused_reply}
use Rattle.top_reply.specs.declared.status.Status.TheVariants.{Done}

-- how many cells and tiles there are
abbrev pub migrated_reply : State → Reply
migrated_reply s = done_reply (migrated_line_of (length (summaries_of s.cells)) (tiles_in s))

abbrev pub migrated_turn : Version → OldMark → Files → State → Turn
migrated_turn version mark files s = record {
  steps = migrating version mark files s;
  tiles = count_existing s (existing s);
  text = (migrated_reply s).text;
}

-- by what the files open as by an old version
abbrev pub migrate_by : Files → OldOpening → Course
migrate_by files (Migrates version s mark) =
    record { status = Done; turns = migrated_turn version mark files s ∷ [] }
migrate_by files (NotOld version) = said (refused_reply (cause_of (answer.NotOld version)))
migrate_by files (NotADatabase line) = said (refused_reply (cause_of (answer.NotADatabase line)))
migrate_by files (InTrouble trouble) = said (refused_reply (cause_of (answer.Trouble trouble)))

pub record IsMigrated (files : Files) (course : Course) : Type 0 where
  pub opening : OldOpening
  pub opens : MigratesAs files opening
  pub course_is : course ≡ migrate_by files opening

-- the files read as a state by an old version
pub record IsOldDatabase (files : Files) : Type 0 where
  pub version : Version
  pub state : State
  pub mark : OldMark
  pub reads : OldReads files version state mark
