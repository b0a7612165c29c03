-- What the words of the command line mean, and the course of each command.
use Rattle.std.specs.Prelude.{◌≡◌, ℕ, Bool, true, false, List, codes, Option, Some, None}
use Rattle.std.specs.FinMap.{get}
use Rattle.terrain_base.specs.Library.{LibraryFiles}
use Rattle.terrain_base.specs.Step.{Files}
use Rattle.top_words.specs.Words.{Edit, Add, Replace, Remove, DatabaseCommand, Ask, Change, Apply, Rebuild, Check, Command, Init, Database, ReadCell, Audit, Migrate, Convert, Trial, Spells}
use Rattle.top_words.specs.declared.command.Query.{Query}
use Rattle.top_words.specs.declared.command.Query.TheVariants.{List as ListCells, Inspect, Deps, Heightmap, Surface}
use Rattle.database.specs.Opening.{Opening, OpensAs}
use Rattle.top_reply.specs.declared.status.Status.TheVariants.{Usage}
use Rattle.top_reply.specs.Audit.{IsAuditReply}
use Rattle.top_reply.specs.Cell.{cell_reply}
use Rattle.top_reply.specs.Convert.{convert_reply}
use Rattle.top_reply.specs.Course.{Course, IsSaid, said}
use Rattle.top_reply.specs.Database.{IsDatabaseCourse, init_course}
use Rattle.top_reply.specs.Migrate.{IsMigrated}
use Rattle.top_reply.specs.Reply.{Reply}
use Rattle.top_reply.specs.Trial.{IsTrialCourse}

-- a command, or none
abbrev pub IsMeant : List (List ℕ) → Option Command → Type 0
IsMeant words None = (command : Command) → ¬ (Spells words command)
IsMeant words (Some command) = Spells words command

-- ---- what is touched

-- whether it may touch the store
abbrev pub touches_store : Option Command → Bool
touches_store None = false
touches_store (Some (Init params)) = true
touches_store (Some (Database command)) = true
touches_store (Some (ReadCell file)) = false
touches_store (Some (Audit file)) = false
touches_store (Some Migrate) = true
touches_store (Some (Convert file)) = false
touches_store (Some (Trial count number)) = false

abbrev pub edit_reads : Edit → Bool
edit_reads (Add file) = true
edit_reads (Replace file) = true
edit_reads (Remove key) = false

abbrev pub database_reads : DatabaseCommand → Bool
database_reads (Ask query) = false
database_reads (Change edit) = edit_reads edit
database_reads (Apply script) = true
database_reads Rebuild = false
database_reads Check = false

-- whether it asks for a file outside
abbrev pub reads_file : Option Command → Bool
reads_file None = false
reads_file (Some (Init params)) = false
reads_file (Some (Database command)) = database_reads command
reads_file (Some (ReadCell file)) = true
reads_file (Some (Audit file)) = true
reads_file (Some Migrate) = false
reads_file (Some (Convert file)) = true
reads_file (Some (Trial count number)) = false

-- whether it may make tiles
abbrev pub makes_tiles : Option Command → Bool
makes_tiles None = false
makes_tiles (Some (Init params)) = true
makes_tiles (Some (Database command)) = true
makes_tiles (Some (ReadCell file)) = false
makes_tiles (Some (Audit file)) = false
makes_tiles (Some Migrate) = true
makes_tiles (Some (Convert file)) = false
makes_tiles (Some (Trial count number)) = true

-- whether it is a question about the surface of a stored tile
abbrev pub is_surface : Query → Bool
is_surface ListCells = false
is_surface (Inspect tile) = false
is_surface (Deps tile) = false
is_surface (Heightmap tile) = false
is_surface (Surface tile question) = true

abbrev pub asks_surface : DatabaseCommand → Bool
asks_surface (Ask query) = is_surface query
asks_surface (Change edit) = false
asks_surface (Apply script) = false
asks_surface Rebuild = false
asks_surface Check = false

abbrev pub database_looks : DatabaseCommand → Bool
database_looks (Ask query) = false
database_looks (Change edit) = false
database_looks (Apply script) = false
database_looks Rebuild = false
database_looks Check = true

-- whether it looks for what is amiss
abbrev pub looks_for_faults : Option Command → Bool
looks_for_faults None = false
looks_for_faults (Some (Init params)) = false
looks_for_faults (Some (Database command)) = database_looks command
looks_for_faults (Some (ReadCell file)) = false
looks_for_faults (Some (Audit file)) = true
looks_for_faults (Some Migrate) = false
looks_for_faults (Some (Convert file)) = false
looks_for_faults (Some (Trial count number)) = false

-- ---- the course

abbrev pub usage_text : List ℕ
usage_text = codes "usage: terrain DIR init CAP FILL | add FILE | replace FILE | remove SQUARE V | apply SCRIPT | rebuild | list | inspect Z X Y | deps Z X Y | cell FILE | audit FILE | check | trial COUNT NUMBER | migrate | convert FILE | heightmap Z X Y | height Z E N | profile Z X Y U1 V1 U2 V2 | sight Z X Y U1 V1 A1 U2 V2 A2 | view Z X Y U V A\n"

abbrev pub usage_reply : Reply
usage_reply = record { status = Usage; text = usage_text }

-- over what store and library hold, and what the held files open as
abbrev pub IsCourse : Option Command → Files → LibraryFiles → Opening → Course → Type 0
IsCourse None files library opening course = course ≡ said usage_reply
IsCourse (Some (Init params)) files library opening course = course ≡ init_course params files
IsCourse (Some (Database command)) files library opening course =
    IsDatabaseCourse command library files opening course
IsCourse (Some (ReadCell file)) files library opening course = course ≡ said (cell_reply file (get library file))
IsCourse (Some (Audit file)) files library opening course = IsSaid (IsAuditReply file (get library file)) course
IsCourse (Some Migrate) files library opening course = IsMigrated files course
IsCourse (Some (Convert file)) files library opening course = course ≡ said (convert_reply file (get library file))
IsCourse (Some (Trial count number)) files library opening course = IsTrialCourse count number course

-- only a command on a database asks what the files open as
abbrev pub IsOpenedAs : Option Command → Files → Opening → Type 0
IsOpenedAs None files opening = Unit {0}
IsOpenedAs (Some (Init params)) files opening = Unit {0}
IsOpenedAs (Some (Database command)) files opening = OpensAs files opening
IsOpenedAs (Some (ReadCell file)) files opening = Unit {0}
IsOpenedAs (Some (Audit file)) files opening = Unit {0}
IsOpenedAs (Some Migrate) files opening = Unit {0}
IsOpenedAs (Some (Convert file)) files opening = Unit {0}
IsOpenedAs (Some (Trial count number)) files opening = Unit {0}

-- an object that is asked tells that this is what it holds
abbrev pub Tells : {T : Type 0} → Bool → Option T → T → Type 0
Tells true told held = told ≡ Some held
Tells false told held = Unit {0}

-- the course of a command over a store and a library that tell, as far as they are asked
pub record IsCourseOf (meaning : Option Command) (held : Option Files) (library : Option LibraryFiles)
    (course : Course) : Type 0 where
  pub files : Files
  pub books : LibraryFiles
  pub opening : Opening
  pub store_tells : Tells (touches_store meaning) held files
  pub library_tells : Tells (reads_file meaning) library books
  pub opens : IsOpenedAs meaning files opening
  pub is : IsCourse meaning files books opening course

pub record HasCourse (meaning : Option Command) (held : Option Files) (library : Option LibraryFiles) : Type 0 where
  pub course : Course
  pub is : IsCourseOf meaning held library course
