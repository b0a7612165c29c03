-- A command on files that open has a course, and passes states.
use Rattle.std.proofs.Common.{◌≡◌, ℕ, Bool, true, false, List, Option, Some, None, refl}
use Rattle.std.specs.FinMap.{get}
use Rattle.terrain_base.specs.declared.name.Key.TheVariants.{Terrain, Note}
use Rattle.terrain_base.specs.declared.tile.TileId.{TileId}
use Rattle.terrain_base.specs.Library.{LibraryFiles}
use Rattle.terrain_base.specs.Overwrite.{all_changed}
use Rattle.terrain_base.specs.Step.{Files}
use Rattle.mesh_codec.specs.Tile.{header_in}
use Rattle.top_words.specs.declared.command.Query.{Query}
use Rattle.top_words.specs.declared.command.Query.TheVariants.{List as ListCells, Inspect, Deps, Heightmap, Surface}
use Rattle.top_words.specs.Words.{DatabaseCommand, Ask, Change, Apply, Rebuild, Check}
use Rattle.database.specs.Commands.{settling}
use Rattle.database.specs.Opening.{Opening, Opens, OldVersion, NotADatabase, InTrouble}
use Rattle.database.specs.State.{State, tile_exists}
use Rattle.top_reply.specs.Check.{check_course}
use Rattle.top_reply.specs.Course.{Course, said}
use Rattle.top_reply.specs.Database.{IsApplied, IsDatabaseCourse, IsOpenedCourse, after_settling}
use Rattle.top_reply.specs.File.{Found, Bytes, NoFile, found_in, script_limit}
use Rattle.top_reply.specs.Laws.{EachHasCourse, EachPasses}
use Rattle.top_reply.specs.Passed.{PassesBy}
use Rattle.top_reply.specs.Query.{IsInspected, IsReplyTo, IsShownBy, shown_reply}
use Rattle.top_reply.specs.Reply.{Reply}
use Rattle.top_reply.specs.Top.{Tells, asks_surface, database_reads, is_surface}
use Rattle.top_reply.proofs.HasLines.{has_lines}
use Rattle.top_reply.proofs.Heights.{has_height}
use Rattle.top_reply.proofs.Verdicts.{has_verdict}

-- ---- replies

has_shown : (tile : TileId) (terrain note : Option (List ℕ)) → (reply : Reply) × IsShownBy tile terrain note reply
has_shown tile None _ = (_, refl)
has_shown tile (Some terrain) None = (_, refl)
has_shown tile (Some terrain) (Some note) =
    let least = has_height (header_in terrain).least in
    let greatest = has_height (header_in terrain).greatest in (
      shown_reply tile terrain note least.0 greatest.0,
      record {
        least = least.0;
        greatest = greatest.0;
        least_is = least.1;
        greatest_is = greatest.1;
        reply_is = refl;
      },
    )

has_inspected : (exists : Bool) (tile : TileId) (files : Files) → (reply : Reply) × IsInspected exists tile files reply
has_inspected false tile files = (_, refl)
has_inspected true tile files = has_shown tile (get files (Terrain tile)) (get files (Note tile))

pub has_reply : (query : Query) (s : State) (files : Files) → is_surface query ≡ false
    → (reply : Reply) × IsReplyTo query s files reply
has_reply ListCells s files other = (_, refl)
has_reply (Inspect tile) s files other = has_inspected (tile_exists s tile) tile files
has_reply (Deps tile) s files other = (_, refl)
has_reply (Heightmap tile) s files other = (_, refl)
has_reply (Surface tile question) s files other = absurd (cc other)

-- ---- courses

has_applied : (found : Found) (library : LibraryFiles) (s : State)
    → (course : Course) × IsApplied found library s course
has_applied (Bytes bytes) library s =
    let lines = has_lines bytes in (_, record { lines = lines.0; are = lines.1; course_is = refl })
has_applied (NoFile cause) library s = (_, refl)

pub has_opened : (command : DatabaseCommand) (library : LibraryFiles) (s : State) (files : Files)
    → asks_surface command ≡ false → (course : Course) × IsOpenedCourse command library s files course
has_opened (Ask query) library s files other =
    let reply = has_reply query s files other in
    (said reply.0, record { reply = reply.0; is = reply.1; course_is = refl })
has_opened (Change edit) library s files other = (_, refl)
has_opened (Apply script) library s files other = has_applied (found_in script script_limit (get library script)) library s
has_opened Rebuild library s files other = (_, refl)
has_opened Check library s files other =
    let verdict = has_verdict s files in (check_course s verdict.0, record { verdict = verdict.0; is = verdict.1; course_is = refl })

has_course : (command : DatabaseCommand) (library : LibraryFiles) (files : Files) (opening : Opening)
    → asks_surface command ≡ false → (course : Course) × IsDatabaseCourse command library files opening course
has_course command library files (Opens s mark) other =
    let rest = has_opened command library s (all_changed (settling mark files s) files) other in
    (after_settling _ _ rest.0, record { rest = rest.0; rest_is = rest.1; course_is = refl })
has_course command library files (OldVersion version) other = (_, refl)
has_course command library files (NotADatabase line) other = (_, refl)
has_course command library files (InTrouble trouble) other = (_, refl)

tells : {T : Type 0} (asked : Bool) (held : T) → Tells asked (Some held) held
tells true held = refl
tells false held = tt

pub each_has_course : EachHasCourse
each_has_course command files library opening other opens =
    let course = has_course command library files opening other in
    record {
      course = course.0;
      is = record {
        files = files;
        books = library;
        opening = opening;
        store_tells = refl;
        library_tells = tells (database_reads command) library;
        opens = opens;
        is = course.1;
      };
    }

-- ---- states

has_passed : (found : Found) (library : LibraryFiles) (s : State)
    → (states : List State) × PassesBy found library s states
has_passed (Bytes bytes) library s =
    let lines = has_lines bytes in (_, record { lines = lines.0; are = lines.1; states_are = refl })
has_passed (NoFile cause) library s = (_, refl)

pub each_passes : EachPasses
each_passes (Ask query) library s = (_, refl)
each_passes (Change edit) library s = (_, refl)
each_passes (Apply script) library s = has_passed (found_in script script_limit (get library script)) library s
each_passes Rebuild library s = (_, refl)
each_passes Check library s = (_, refl)
