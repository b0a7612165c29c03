-- There is a course.
use Rattle.terrain_base.specs.Library.{LibraryFiles}
use Rattle.terrain_base.specs.Step.{Files}
use Rattle.top_words.specs.declared.command.Query.{Query}
use Rattle.top_words.specs.Words.{DatabaseCommand}
use Rattle.database.specs.Opening.{Opening, OpensAs}
use Rattle.database.specs.State.{State}
use Rattle.top_reply.specs.Course.{Course}
use Rattle.top_reply.specs.Database.{IsDatabaseCourse, IsOpenedCourse}
use Rattle.top_reply.specs.Migrate.{IsMigrated}
use Rattle.top_reply.specs.Query.{IsReplyTo}
use Rattle.top_reply.specs.Reply.{Reply}

-- there is a reply to a question
abbrev pub HasReply : Query → State → Files → Type 0
HasReply query s files = (reply : Reply) × IsReplyTo query s files reply

-- of a command over a database that is settled
abbrev pub HasOpened : DatabaseCommand → LibraryFiles → State → Files → Type 0
HasOpened command library s files = (course : Course) × IsOpenedCourse command library s files course

-- of a migration over any files
abbrev pub HasMigrated : Files → Type 0
HasMigrated files = (course : Course) × IsMigrated files course

-- of a command over any files
pub record HasOfDatabase (command : DatabaseCommand) (library : LibraryFiles) (files : Files) : Type 0 where
  pub opening : Opening
  pub opens : OpensAs files opening
  pub course : Course
  pub is : IsDatabaseCourse command library files opening course
