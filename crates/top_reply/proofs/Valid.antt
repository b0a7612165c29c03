-- A valid call ends well.
use Rattle.std.proofs.Common.{◌≡◌, ◌⊎◌, inl, inr, ℕ, ℤ, Bool, true, false, nat_lt, List, [], Option, Some, None, refl, sym, ap, subst, ◌∙◌, ⊎_elim, if◌then◌else◌}
use Rattle.std.specs.FinMap.{get, keys}
use Rattle.terrain_base.specs.declared.name.Key.TheVariants.{Terrain, Note}
use Rattle.std.specs.Prelude.{IsSomeAnd}
use Rattle.terrain_base.specs.declared.square.Square.{Square}
use Rattle.terrain_base.specs.declared.tile.TileId.{TileId}
use Rattle.terrain_base.specs.Library.{LibraryFiles}
use Rattle.terrain_base.specs.Overwrite.{all_changed}
use Rattle.terrain_base.specs.Step.{Files}
use Rattle.dted_cell.specs.Refusal.{refusal_of}
use Rattle.cell_mosaic.specs.Cells.{AreSound}
use Rattle.hgt_cells.specs.Name.{square_named}
use Rattle.hgt_cells.specs.Refusal.{hgt_refusal_of}
use Rattle.mesh_check.specs.declared.verdict.Verdict as mesh
use Rattle.mesh_check.specs.declared.verdict.Verdict.TheVariants as of_mesh
use Rattle.mesh_codec.specs.Refusal.{tile_refusal_of}
use Rattle.mesh_codec.proofs.FirstLaws.{unrefused_by}
use Rattle.post_bound.proofs.Spans.{bound_keeps_law}
use Rattle.tile_rule.specs.Tile.{terrain_of, note_of}
use Rattle.tile_rule.proofs.Tiles.{good_law}
use Rattle.top_words.specs.declared.command.Query.{Query}
use Rattle.top_words.specs.declared.command.Query.TheVariants.{List as ListCells, Inspect, Deps, Heightmap, Surface}
use Rattle.top_words.specs.Words.{Add, Replace, Remove, DatabaseCommand, Ask, Change, Apply, Rebuild, Check, Command, Init, Database, ReadCell, Audit, Migrate, Convert, Trial}
use Rattle.database.specs.Commands.{settling}
use Rattle.database.specs.Opening.{Opening, Opens, OpensAs}
use Rattle.database.specs.State.{State, AreFiles, tile_exists, where_it_is}
use Rattle.database.proofs.Openings.{one_opening}
use Rattle.database.proofs.Settled.{settling_files}
use Rattle.top_reply.specs.declared.status.Status.{Status}
use Rattle.top_reply.specs.declared.status.Status.TheVariants.{Done, Refused, Usage, InputFault, StoreFault, OutputFault, NoMemory, Found}
use Rattle.db_check.proofs.Exactness.{good_exact}
use Rattle.top_reply.specs.Audit.{IsAudited, IsTileReply, IsTileReplyBy, verdict_reply}
use Rattle.top_reply.specs.Cell.{read_reply, read_reply_by}
use Rattle.top_reply.specs.Check.{status_of_verdict}
use Rattle.top_reply.specs.Convert.{convert_by, converted, converted_by}
use Rattle.top_reply.specs.Course.{Course, World, Goes}
use Rattle.top_reply.specs.Database.{IsApplied, IsDatabaseCourse, IsOpenedCourse, init_by}
use Rattle.top_reply.specs.Edits.{status_by}
use Rattle.top_reply.specs.File.{IsReplyBy, cell_limit, found_in, reply_by, script_limit}
use Rattle.top_reply.specs.Laws.{ValidEndsWell}
use Rattle.top_reply.specs.Lines.{commands_of, refused_in}
use Rattle.top_reply.specs.Query.{IsInspected, IsReplyTo, IsShownBy, shown_by, shown_reply, IsSurfaceAsked, IsSurfaceBy, answer_reply}
use Rattle.top_reply.specs.Migrate.{IsMigrated, IsOldDatabase, migrate_by}
use Rattle.tile_query.specs.declared.question.Question.{Question}
use Rattle.tile_query.specs.Answer.{AnswerText, Told, Refused}
use Rattle.tile_query.specs.Laws.{IsTelling}
use Rattle.tile_query.proofs.OneAnswer.{told_where_read}
use Rattle.tile_field.proofs.Tiles.{each_tile_is_read}
use Rattle.db_old_reading.specs.OldOpening.{Migrates}
use Rattle.db_old_reading.proofs.OldOpenings.{one_opening as files_migrate_once}
use Rattle.top_reply.specs.Reply.{Reply}
use Rattle.top_reply.specs.Status.{IsAnswer}
use Rattle.top_reply.specs.Top.{HasCourse, IsCourse, IsCourseOf, IsOpenedAs, Tells, database_reads, reads_file, touches_store}
use Rattle.top_reply.specs.Valid.{EndsWell, IsValid, IsValidFile, IsValidOfDatabase, IsValidOver, IsValidQuery, IsValidScript}
use Rattle.top_reply.proofs.OneCourse.{told_same}
use Rattle.top_reply.proofs.OneLines.{one_list}

-- ---- what is asked of a database

-- the terrain of a state's tile is refused nowhere
unrefused : (s : State) (tile : TileId) → AreSound s.cells → tile_refusal_of (terrain_of s.params s.cells tile) ≡ None
unrefused s tile sound =
    let made = (good_law bound_keeps_law s.params s.cells tile sound).made in
    unrefused_by (terrain_of s.params s.cells tile) made.header made.mesh [] made.sight.seen.decodes

shown_done : (tile : TileId) (terrain note : List ℕ) (least greatest : Option ℤ) → tile_refusal_of terrain ≡ None
    → (shown_reply tile terrain note least greatest).status ≡ Done
shown_done tile terrain note least greatest none =
    ap (λ refusal. (shown_by tile terrain note least greatest refusal).status) none

-- over the state's files
inspected_done : (s : State) (files : Files) (tile : TileId) (reply : Reply) → AreFiles files s → AreSound s.cells
    → tile_exists s tile ≡ true → IsInspected (tile_exists s tile) tile files reply → reply.status ≡ Done
inspected_done s files tile reply are sound exists is =
    let terrain = terrain_of s.params s.cells tile in
    let note = note_of s.params s.cells tile in
    let first : get files (Terrain tile) ≡ Some terrain =
    are.each (Terrain tile) ∙ ap (λ there. where_it_is there terrain) exists in
    let second : get files (Note tile) ≡ Some note =
    are.each (Note tile) ∙ ap (λ there. where_it_is there note) exists in
    let held : IsShownBy tile (get files (Terrain tile)) (get files (Note tile)) reply =
    subst (λ there. IsInspected there tile files reply) exists is in
    let shown : IsShownBy tile (Some terrain) (Some note) reply =
    subst (λ held. IsShownBy tile (Some terrain) held reply) second
    (subst (λ held. IsShownBy tile held (get files (Note tile)) reply) first held) in
    ap (λ told. told.status) shown.reply_is
    ∙ shown_done tile terrain note shown.least shown.greatest (unrefused s tile sound)

chosen_done : (there : Bool) (shown refused : Reply) → there ≡ true → shown.status ≡ Done
    → (if there then shown else refused).status ≡ Done
chosen_done true shown refused is done = done
chosen_done false shown refused is done = absurd (cc)

-- ---- the surface of a stored tile

telling_done : (answer : AnswerText) → IsTelling answer → (answer_reply answer).status ≡ Done
telling_done (Told text) telling = refl
telling_done (Refused cause) telling = absurd telling

-- a state's tile is read, so that the question is answered
surface_done : (s : State) (files : Files) (tile : TileId) (question : Question) (reply : Reply) → AreFiles files s
    → AreSound s.cells → tile_exists s tile ≡ true → IsSurfaceAsked (tile_exists s tile) tile question files reply
    → reply.status ≡ Done
surface_done s files tile question reply are sound exists is =
    let terrain = terrain_of s.params s.cells tile in
    let note = note_of s.params s.cells tile in
    let first : get files (Terrain tile) ≡ Some terrain =
    are.each (Terrain tile) ∙ ap (λ there. where_it_is there terrain) exists in
    let second : get files (Note tile) ≡ Some note =
    are.each (Note tile) ∙ ap (λ there. where_it_is there note) exists in
    let held : IsSurfaceBy tile question (get files (Terrain tile)) (get files (Note tile)) reply =
    subst (λ there. IsSurfaceAsked there tile question files reply) exists is in
    let shown : IsSurfaceBy tile question (Some terrain) (Some note) reply =
    subst (λ held. IsSurfaceBy tile question (Some terrain) held reply) second
    (subst (λ held. IsSurfaceBy tile question held (get files (Note tile)) reply) first held) in
    let read = each_tile_is_read s.params s.cells tile sound in
    ap (λ told. told.status) shown.reply_is
    ∙ telling_done shown.answer (told_where_read tile terrain question shown.answer read.1.0 read.0 read.1.1 shown.is)

reply_done : (query : Query) (s : State) (files : Files) (reply : Reply) → AreFiles files s → AreSound s.cells
    → IsValidQuery query s → IsReplyTo query s files reply → reply.status ≡ Done
reply_done ListCells s files reply are sound valid is = ap (λ told. told.status) is
reply_done (Inspect tile) s files reply are sound valid is = inspected_done s files tile reply are sound valid is
reply_done (Deps tile) s files reply are sound valid is =
    ap (λ told. told.status) is ∙ chosen_done (tile_exists s tile) _ _ valid refl
reply_done (Heightmap tile) s files reply are sound valid is =
    ap (λ told. told.status) is ∙ chosen_done (tile_exists s tile) _ _ valid refl
reply_done (Surface tile question) s files reply are sound valid is =
    surface_done s files tile question reply are sound valid is

-- ---- over a database

script_done : (script : List ℕ) (library : LibraryFiles) (s : State) (course : Course) → IsValidScript script library s
    → IsApplied (found_in script script_limit (get library script)) library s course → course.status ≡ Done
script_done script library s course valid is =
    let read = subst (λ found. IsApplied found library s course) valid.found is in
    let lines = one_list valid.bytes read.lines valid.lines read.are valid.are in
    let none = ap (λ lines. refused_in library (commands_of 1 lines) s) lines ∙ valid.accepted in
    ap (λ told. told.status) read.course_is ∙ ap (λ refused. status_by (nat_lt 0 refused)) none

opened_done : (command : DatabaseCommand) (library : LibraryFiles) (s : State) (files : Files) (course : Course)
    → AreFiles files s → AreSound s.cells → IsValidOver command library s
    → IsOpenedCourse command library s files course → course.status ≡ Done
opened_done (Ask query) library s files course are sound valid is =
    ap (λ told. told.status) is.course_is ∙ reply_done query s files is.reply are sound valid is.is
opened_done (Change edit) library s files course are sound valid is =
    ap (λ told. told.status) is ∙ ap status_by valid
opened_done (Apply script) library s files course are sound valid is = script_done script library s course valid is
opened_done Rebuild library s files course are sound valid is = ap (λ told. told.status) is
opened_done Check library s files course are sound valid is =
    ap (λ told. told.status) is.course_is ∙ ap status_of_verdict ((good_exact s files is.verdict is.is).1 are)

database_done : (command : DatabaseCommand) (library : LibraryFiles) (files : Files) (opening : Opening)
    (course : Course)
    → OpensAs files opening → IsDatabaseCourse command library files opening course
    → IsValidOfDatabase command files library → course.status ≡ Done
database_done command library files opening course opens is valid =
    let mark = valid.stands.mark in
    let stands = valid.stands.stands in
    let one : opening ≡ Opens valid.state mark =
    one_opening files opening (Opens valid.state mark) opens stands.reads in
    let settled = subst (λ opening. IsDatabaseCourse command library files opening course) one is in
    ap (λ told. told.status) settled.course_is
    ∙ opened_done command library valid.state (all_changed (settling mark files valid.state) files) settled.rest
    (settling_files mark valid.state files stands) stands.reads.state.sound valid.valid settled.rest_is

-- ---- all commands

cell_done : (bytes : List ℕ) → refusal_of bytes ≡ None → (read_reply bytes).status ≡ Done
cell_done bytes none = ap (λ refusal. (read_reply_by bytes refusal).status) none

-- good, or something found
verdict_ends : (bytes : List ℕ) (verdict : mesh.Verdict)
    → ((verdict_reply bytes verdict).status ≡ Done) ⊎ ((verdict_reply bytes verdict).status ≡ Found)
verdict_ends bytes of_mesh.Good = inl refl
verdict_ends bytes (of_mesh.Found finding) = inr refl

audited_ends : (file bytes : List ℕ) (reply : Reply) → IsAudited bytes reply → EndsWell (Audit file) reply.status
audited_ends file bytes reply is =
    let same = ap (λ (told : Reply). told.status) is.reply_is in
    ⊎_elim (λ done. inl (same ∙ done)) (λ found. inr (same ∙ found, tt)) (verdict_ends bytes is.verdict)

tile_ends : (file bytes : List ℕ) (reply : Reply) → tile_refusal_of bytes ≡ None → IsTileReply bytes reply
    → EndsWell (Audit file) reply.status
tile_ends file bytes reply none is =
    audited_ends file bytes reply (subst (λ refusal. IsTileReplyBy bytes refusal reply) none is)

-- a raster
raster_done : (square : Square) (bytes : List ℕ) → hgt_refusal_of bytes ≡ None → (converted square bytes).status ≡ Done
raster_done square bytes none = ap (λ refusal. (converted_by square bytes refusal).status) none

convert_done : (file : List ℕ) (library : LibraryFiles) (named : Option Square)
    → IsSomeAnd named (λ square. IsValidFile file cell_limit library (λ bytes. hgt_refusal_of bytes ≡ None))
    → (convert_by named file (get library file)).status ≡ Done
convert_done file library None valid = absurd valid
convert_done file library (Some square) valid =
    ap (λ found. (reply_by (converted square) found).status) valid.found ∙ raster_done square valid.bytes valid.fine

command_done : (command : Command) (files : Files) (library : LibraryFiles) (opening : Opening) (course : Course)
    → IsOpenedAs (Some command) files opening → IsCourse (Some command) files library opening course
    → IsValid command files library → EndsWell command course.status
command_done (Init params) files library opening course opens is valid =
    inl (ap (λ told. told.status) is ∙ ap (λ names. (init_by params files names).status) valid)
command_done (Database command) files library opening course opens is valid =
    inl (database_done command library files opening course opens is valid)
command_done (ReadCell file) files library opening course opens is valid =
    inl (ap (λ told. told.status) is ∙ ap (λ found. (reply_by read_reply found).status) valid.found
    ∙ cell_done valid.bytes valid.fine)
command_done (Audit file) files library opening course opens is valid =
    let reply = subst (λ found. IsReplyBy IsTileReply found is.reply) valid.found is.is in
    subst (EndsWell (Audit file)) (sym (ap (λ (told : Course). told.status) is.course_is))
    (tile_ends file valid.bytes is.reply valid.fine reply)
command_done Migrate files library opening course opens is valid =
    let brought = Migrates valid.version valid.state valid.mark in
    let one = files_migrate_once files is.opening brought is.opens valid.reads in
    inl (ap (λ (told : Course). told.status) (is.course_is ∙ ap (migrate_by files) one))
command_done (Convert file) files library opening course opens is valid =
    inl (ap (λ (told : Course). told.status) is ∙ convert_done file library (square_named file) valid)
command_done (Trial count number) files library opening course opens is valid =
    inl (ap (λ told. told.status) is.course_is)

pub valid_ends_well : ValidEndsWell
valid_ends_well command held library course is valid =
    command_done command is.files is.books is.opening course is.opens is.is valid

-- ---- whatever is told of what is not asked

same_books : (command : DatabaseCommand) (files : Files) (library other : LibraryFiles)
    → (database_reads command ≡ true → library ≡ other) → IsValidOfDatabase command files library
    → IsValidOfDatabase command files other
same_books (Ask query) files library other same valid =
    record { state = valid.state; stands = valid.stands; valid = valid.valid }
same_books (Change (Add file)) files library other same valid =
    subst (λ books. IsValidOfDatabase (Change (Add file)) files books) (same refl) valid
same_books (Change (Replace file)) files library other same valid =
    subst (λ books. IsValidOfDatabase (Change (Replace file)) files books) (same refl) valid
same_books (Change (Remove key)) files library other same valid =
    record { state = valid.state; stands = valid.stands; valid = valid.valid }
same_books (Apply script) files library other same valid =
    subst (λ books. IsValidOfDatabase (Apply script) files books) (same refl) valid
same_books Rebuild files library other same valid =
    record { state = valid.state; stands = valid.stands; valid = valid.valid }
same_books Check files library other same valid =
    record { state = valid.state; stands = valid.stands; valid = valid.valid }

still_valid : (command : Command) (held : Option Files) (library : Option LibraryFiles) (files other : Files)
    (books others : LibraryFiles)
    → Tells (touches_store (Some command)) held files → Tells (touches_store (Some command)) held other
    → Tells (reads_file (Some command)) library books → Tells (reads_file (Some command)) library others
    → IsValid command files books → IsValid command other others
still_valid (Init params) held library files other books others p q r t valid =
    subst (λ held. keys held ≡ []) (told_same true held files other p q refl) valid
still_valid (Database command) held library files other books others p q r t valid =
    same_books command other books others (told_same (database_reads command) library books others r t)
    (subst (λ held. IsValidOfDatabase command held books) (told_same true held files other p q refl) valid)
still_valid (ReadCell file) held library files other books others p q r t valid =
    subst (λ held. IsValid (ReadCell file) other held) (told_same true library books others r t refl) valid
still_valid (Audit file) held library files other books others p q r t valid =
    subst (λ held. IsValid (Audit file) other held) (told_same true library books others r t refl) valid
still_valid Migrate held library files other books others p q r t valid =
    subst IsOldDatabase (told_same true held files other p q refl) valid
still_valid (Convert file) held library files other books others p q r t valid =
    subst (λ held. IsValid (Convert file) other held) (told_same true library books others r t refl) valid
still_valid (Trial count number) held library files other books others p q r t valid = tt

-- ---- a run of a valid call

answer_is : (course : Course) (w w' : World) (status : Status) → IsAnswer status → Goes course w w' status
    → status ≡ course.status
answer_is course w w' Done answers goes = goes.status_is
answer_is course w w' Refused answers goes = goes.status_is
answer_is course w w' Usage answers goes = goes.status_is
answer_is course w w' InputFault answers goes = absurd answers
answer_is course w w' StoreFault answers goes = absurd answers
answer_is course w w' OutputFault answers goes = absurd answers
answer_is course w w' NoMemory answers goes = absurd answers
answer_is course w w' Found answers goes = goes.status_is

-- that answers at all ends well
pub valid_ends : (command : Command) (held : Option Files) (library : Option LibraryFiles) (w w' : World)
    (status : Status) (files : Files) (books : LibraryFiles) → HasCourse (Some command) held library
    → ((course : Course) → IsCourseOf (Some command) held library course → Goes course w w' status)
    → Tells (touches_store (Some command)) held files → Tells (reads_file (Some command)) library books
    → IsValid command files books → IsAnswer status → EndsWell command status
valid_ends command held library w w' status files books has goes store_tells library_tells valid answers =
    let is = has.is in
    subst (EndsWell command) (sym (answer_is has.course w w' status answers (goes has.course is)))
    (valid_ends_well command held library has.course is
    (still_valid command held library files is.files books is.books store_tells is.store_tells library_tells
    is.library_tells valid))
