-- A command has one course, and reaches one state.
use Rattle.std.proofs.Common.{◌≡◌, ℕ, ℤ, Bool, true, false, List, [], ◌∷◌, decimal, codes, Option, Some, None, refl, sym, ap, subst, ◌∙◌}
use Rattle.std.specs.FinMap.{get, same_map}
use Rattle.float_bits.proofs.Formats.{one_number32}
use Rattle.terrain_base.specs.declared.name.Key.TheVariants.{Terrain, Note}
use Rattle.terrain_base.specs.declared.tile.TileId.{TileId}
use Rattle.terrain_base.specs.Library.{LibraryFiles}
use Rattle.terrain_base.specs.Step.{Files}
use Rattle.terrain_base.proofs.NameOrder.{by_text_total, by_text_exact}
use Rattle.mesh_codec.specs.declared.refusal.TileRefusal.{TileRefusal}
use Rattle.mesh_codec.specs.Refusal.{tile_refusal_of}
use Rattle.mesh_codec.specs.Tile.{header_in, mesh_in}
use Rattle.mesh_check.proofs.LawProofs.{one_verdict_law}
use Rattle.report_text.specs.Words.{joined}
use Rattle.top_words.specs.declared.command.Query.{Query}
use Rattle.top_words.specs.declared.command.Query.TheVariants.{List as ListCells, Inspect, Deps, Heightmap, Surface}
use Rattle.top_words.specs.Words.{Add, Replace, Remove, DatabaseCommand, Ask, Change, Apply, Rebuild, Check, Command, Init, Database, ReadCell, Audit, Migrate, Convert, Trial}
use Rattle.database.specs.Opening.{Opening, Opens, OldVersion, NotADatabase, InTrouble, OpensAs}
use Rattle.database.specs.State.{State, AreFiles, tile_exists}
use Rattle.database.proofs.Openings.{one_opening}
use Rattle.db_check.proofs.Exactness.{one_verdict}
use Rattle.db_report.specs.declared.trial.TrialReport.{TrialReport}
use Rattle.db_report.specs.Tile.{IsHeightWord}
use Rattle.db_report.specs.Trial.{trial_line_of}
use Rattle.top_reply.specs.Audit.{IsAuditReply, IsTileReply, IsTileReplyBy, verdict_reply}
use Rattle.top_reply.specs.Check.{check_course}
use Rattle.top_reply.specs.Course.{Course, said}
use Rattle.top_reply.specs.Database.{IsApplied, IsDatabaseCourse, IsOpenedCourse, after_settling, init_course}
use Rattle.top_reply.specs.Edits.{edit_course, edit_reply}
use Rattle.top_reply.specs.File.{Found, Bytes, NoFile, IsReplyBy, found_in, script_limit, tile_limit}
use Rattle.top_reply.specs.Laws.{OneCourse, OneState}
use Rattle.top_reply.specs.Lines.{after_lines, commands_of, lines_course}
use Rattle.top_reply.specs.Passed.{ReachesBy}
use Rattle.top_reply.specs.Query.{IsInspected, IsReplyTo, IsShownBy, shown_reply, IsSurfaceAsked, IsSurfaceBy, answer_reply}
use Rattle.top_reply.specs.Migrate.{IsMigrated, migrate_by}
use Rattle.tile_query.specs.declared.question.Question.{Question}
use Rattle.tile_query.proofs.OneAnswer.{one_answer}
use Rattle.db_old_reading.proofs.OldOpenings.{one_opening as files_migrate_once}
use Rattle.top_reply.specs.Reply.{Reply}
use Rattle.top_reply.specs.Top.{IsCourse, IsCourseOf, Tells, database_reads}
use Rattle.db_trial.specs.Trial.{IsTotal, IsTrial, bytes_in}
use Rattle.top_reply.specs.Trial.{IsTrialCourse, trial_course_by}
use Rattle.top_reply.proofs.OneLines.{one_list}

-- ---- what is told

some_same : {T : Type 0} (x y : T) → Some x ≡ Some y → x ≡ y
some_same x y e = cc

-- an object that is asked tells one thing
pub told_same : {T : Type 0} (asked : Bool) (told : Option T) (x y : T) → Tells asked told x → Tells asked told y
    → asked ≡ true → x ≡ y
told_same true told x y p q e = some_same x y (sym p ∙ q)
told_same false told x y p q e = absurd (cc)

-- ---- a stored tile

one_height : (bits : ℕ) (a b : Option ℤ) → IsHeightWord bits a → IsHeightWord bits b → a ≡ b
one_height bits None None p q = refl
one_height bits None (Some n) p q = absurd (p n q.0 q.1)
one_height bits (Some n) None p q = absurd (q n p.0 p.1)
one_height bits (Some m) (Some n) p q = ap Some (one_number32 m n bits p.1 q.1)

one_shown : (tile : TileId) (terrain note : Option (List ℕ)) (a b : Reply) → IsShownBy tile terrain note a
    → IsShownBy tile terrain note b → a ≡ b
one_shown tile None _ a b p q = p ∙ sym q
one_shown tile (Some terrain) None a b p q = p ∙ sym q
one_shown tile (Some terrain) (Some note) a b p q =
    let least = one_height (header_in terrain).least p.least q.least p.least_is q.least_is in
    let greatest = one_height (header_in terrain).greatest p.greatest q.greatest p.greatest_is q.greatest_is in
    p.reply_is ∙ (λ i. shown_reply tile terrain note (least i) (greatest i)) ∙ sym q.reply_is

one_inspected : (exists : Bool) (tile : TileId) (files : Files) (a b : Reply) → IsInspected exists tile files a
    → IsInspected exists tile files b → a ≡ b
one_inspected false tile files a b p q = p ∙ sym q
one_inspected true tile files a b p q = one_shown tile (get files (Terrain tile)) (get files (Note tile)) a b p q

-- ---- the surface of a stored tile

one_surface : (tile : TileId) (question : Question) (terrain note : Option (List ℕ)) (a b : Reply)
    → IsSurfaceBy tile question terrain note a → IsSurfaceBy tile question terrain note b → a ≡ b
one_surface tile question None _ a b p q = p ∙ sym q
one_surface tile question (Some terrain) None a b p q = p ∙ sym q
one_surface tile question (Some terrain) (Some note) a b p q =
    p.reply_is ∙ ap answer_reply (one_answer tile terrain question p.answer q.answer p.is q.is) ∙ sym q.reply_is

pub one_surface_asked : (exists : Bool) (tile : TileId) (question : Question) (files : Files) (a b : Reply)
    → IsSurfaceAsked exists tile question files a → IsSurfaceAsked exists tile question files b → a ≡ b
one_surface_asked false tile question files a b p q = p ∙ sym q
one_surface_asked true tile question files a b p q =
    one_surface tile question (get files (Terrain tile)) (get files (Note tile)) a b p q

-- ---- all questions

one_reply : (query : Query) (s : State) (files : Files) (a b : Reply) → IsReplyTo query s files a
    → IsReplyTo query s files b → a ≡ b
one_reply ListCells s files a b p q = p ∙ sym q
one_reply (Inspect tile) s files a b p q = one_inspected (tile_exists s tile) tile files a b p q
one_reply (Deps tile) s files a b p q = p ∙ sym q
one_reply (Heightmap tile) s files a b p q = p ∙ sym q
one_reply (Surface tile question) s files a b p q = one_surface_asked (tile_exists s tile) tile question files a b p q

-- ---- over a database

one_applied : (found : Found) (library : LibraryFiles) (s : State) (a b : Course) → IsApplied found library s a
    → IsApplied found library s b → a ≡ b
one_applied (Bytes bytes) library s a b p q =
    p.course_is ∙ ap (λ lines. lines_course library (commands_of 1 lines) s)
    (one_list bytes p.lines q.lines p.are q.are)
    ∙ sym q.course_is
one_applied (NoFile cause) library s a b p q = p ∙ sym q

-- the library is one, if the command reads it
one_opened : (command : DatabaseCommand) (library other : LibraryFiles) (s : State) (files : Files) (a b : Course)
    → (database_reads command ≡ true → library ≡ other)
    → IsOpenedCourse command library s files a → IsOpenedCourse command other s files b → a ≡ b
one_opened (Ask query) library other s files a b same p q =
    p.course_is ∙ ap said (one_reply query s files p.reply q.reply p.is q.is) ∙ sym q.course_is
one_opened (Change (Add file)) library other s files a b same p q =
    p ∙ ap (λ books. edit_course (edit_reply (Add file) books s)) (same refl) ∙ sym q
one_opened (Change (Replace file)) library other s files a b same p q =
    p ∙ ap (λ books. edit_course (edit_reply (Replace file) books s)) (same refl) ∙ sym q
one_opened (Change (Remove key)) library other s files a b same p q = p ∙ sym q
one_opened (Apply script) library other s files a b same p q =
    let here = subst (λ books. IsApplied (found_in script script_limit (get books script)) books s a) (same refl) p in
    one_applied (found_in script script_limit (get other script)) other s a b here q
one_opened Rebuild library other s files a b same p q = p ∙ sym q
one_opened Check library other s files a b same p q =
    p.course_is ∙ ap (check_course s) (one_verdict s files p.verdict q.verdict p.is q.is) ∙ sym q.course_is

one_of_database : (command : DatabaseCommand) (library other : LibraryFiles) (files : Files) (opening : Opening)
    (a b : Course) → (database_reads command ≡ true → library ≡ other)
    → IsDatabaseCourse command library files opening a → IsDatabaseCourse command other files opening b → a ≡ b
one_of_database command library other files (Opens s mark) a b same p q =
    p.course_is ∙ ap (after_settling _ _) (one_opened command library other s _ p.rest q.rest same p.rest_is q.rest_is)
    ∙ sym q.course_is
one_of_database command library other files (OldVersion version) a b same p q = p ∙ sym q
one_of_database command library other files (NotADatabase line) a b same p q = p ∙ sym q
one_of_database command library other files (InTrouble trouble) a b same p q = p ∙ sym q

-- ---- an audit

one_reply_by : (Is : List ℕ → Reply → Type 0) → ((bytes : List ℕ) (a b : Reply) → Is bytes a → Is bytes b → a ≡ b)
    → (found : Found) (a b : Reply) → IsReplyBy Is found a → IsReplyBy Is found b → a ≡ b
one_reply_by Is one (Bytes bytes) a b p q = one bytes a b p q
one_reply_by Is one (NoFile cause) a b p q = p ∙ sym q

one_tile_reply : (bytes : List ℕ) (refusal : Option TileRefusal) (a b : Reply) → IsTileReplyBy bytes refusal a
    → IsTileReplyBy bytes refusal b → a ≡ b
one_tile_reply bytes None a b p q =
    p.reply_is ∙ ap (verdict_reply bytes) (one_verdict_law (mesh_in bytes) p.verdict q.verdict p.is q.is) ∙ sym q.reply_is
one_tile_reply bytes (Some refusal) a b p q = p ∙ sym q

pub one_audit : (file : List ℕ) (held : Option (List ℕ)) (a b : Reply) → IsAuditReply file held a → IsAuditReply file held b
    → a ≡ b
one_audit file held a b p q =
    one_reply_by IsTileReply (λ bytes. one_tile_reply bytes (tile_refusal_of bytes)) (found_in file tile_limit held) a b p q

-- ---- a trial

one_map : (s : State) (a b : Files) → AreFiles a s → AreFiles b s → a ≡ b
one_map s a b p q = same_map by_text_total by_text_exact a b (λ name. p.each name ∙ sym (q.each name))

one_total : (s : State) (m n : ℕ) → IsTotal s m → IsTotal s n → m ≡ n
one_total s m n p q = p.total_is ∙ ap bytes_in (one_map s p.files q.files p.are q.are) ∙ sym q.total_is

line_by : (count number accepted refused cells tiles bytes scratch : ℕ) → List ℕ
line_by count number accepted refused cells tiles bytes scratch = joined
    (joined
    (codes "trial " ∷ decimal count ∷ codes " " ∷ decimal number ∷ codes " accepted " ∷ decimal accepted
    ∷ codes " refused " ∷ decimal refused ∷ [])
    ∷ codes " cells " ∷ decimal cells ∷ codes " tiles " ∷ decimal tiles
    ∷ codes " bytes " ∷ decimal bytes ∷ codes " scratch " ∷ decimal scratch ∷ [])

one_line : (count number : ℕ) (a b : TrialReport) → IsTrial count number a → IsTrial count number b
    → trial_line_of a ≡ trial_line_of b
unfolding line_by
one_line count number a b p q =
    let counts = p.count_is ∙ sym q.count_is in
    let numbers = p.number_is ∙ sym q.number_is in
    let accepted = p.accepted ∙ sym q.accepted in
    let refused = p.refused ∙ sym q.refused in
    let cells = p.cells ∙ sym q.cells in
    let tiles = p.tiles ∙ sym q.tiles in
    let bytes = one_total _ a.bytes b.bytes p.bytes q.bytes in
    let scratch = one_total _ a.scratch b.scratch p.scratch q.scratch in
    λ i. line_by (counts i) (numbers i) (accepted i) (refused i) (cells i) (tiles i) (bytes i) (scratch i)

pub one_trial : (count number : ℕ) (a b : Course) → IsTrialCourse count number a → IsTrialCourse count number b → a ≡ b
one_trial count number a b p q =
    p.course_is ∙ ap (trial_course_by count number) (one_line count number p.report q.report p.is_trial q.is_trial)
    ∙ sym q.course_is

-- ---- a migration

one_migrated : (files : Files) (a b : Course) → IsMigrated files a → IsMigrated files b → a ≡ b
one_migrated files a b p q =
    p.course_is ∙ ap (migrate_by files) (files_migrate_once files p.opening q.opening p.opens q.opens) ∙ sym q.course_is

-- ---- all commands

one_of_command : (meaning : Option Command) (held : Option Files) (library : Option LibraryFiles) (a b : Course)
    (p : IsCourseOf meaning held library a) (q : IsCourseOf meaning held library b) → a ≡ b
one_of_command None held library a b p q = p.is ∙ sym q.is
one_of_command (Some (Init params)) held library a b p q =
    p.is ∙ ap (init_course params) (some_same p.files q.files (sym p.store_tells ∙ q.store_tells)) ∙ sym q.is
one_of_command (Some (Database command)) held library a b p q =
    let files : p.files ≡ q.files = some_same p.files q.files (sym p.store_tells ∙ q.store_tells) in
    let opens = subst (λ held. OpensAs held p.opening) files p.opens in
    let openings : p.opening ≡ q.opening = one_opening q.files p.opening q.opening opens q.opens in
    let here = subst (λ opening. IsDatabaseCourse command p.books q.files opening a) openings
    (subst (λ held. IsDatabaseCourse command p.books held p.opening a) files p.is) in
    one_of_database command p.books q.books q.files q.opening a b
    (told_same (database_reads command) library p.books q.books p.library_tells q.library_tells) here q.is
one_of_command (Some (ReadCell file)) held library a b p q =
    let books : p.books ≡ q.books = some_same p.books q.books (sym p.library_tells ∙ q.library_tells) in
    subst (λ books. IsCourse (Some (ReadCell file)) p.files books p.opening a) books p.is ∙ sym q.is
one_of_command (Some (Audit file)) held library a b p q =
    let books : p.books ≡ q.books = some_same p.books q.books (sym p.library_tells ∙ q.library_tells) in
    let here = subst (λ books. IsCourse (Some (Audit file)) p.files books p.opening a) books p.is in
    here.course_is ∙ ap said (one_audit file (get q.books file) here.reply q.is.reply here.is q.is.is) ∙ sym q.is.course_is
one_of_command (Some Migrate) held library a b p q =
    let files : p.files ≡ q.files = some_same p.files q.files (sym p.store_tells ∙ q.store_tells) in
    let here = subst (λ held. IsMigrated held a) files p.is in
    one_migrated q.files a b here q.is
one_of_command (Some (Convert file)) held library a b p q =
    let books : p.books ≡ q.books = some_same p.books q.books (sym p.library_tells ∙ q.library_tells) in
    subst (λ books. IsCourse (Some (Convert file)) p.files books p.opening a) books p.is ∙ sym q.is
one_of_command (Some (Trial count number)) held library a b p q = one_trial count number a b p.is q.is

pub one_course : OneCourse
one_course meaning held library a b p q = one_of_command meaning held library a b p q

-- ---- the state that is reached

one_by_lines : (found : Found) (library : LibraryFiles) (s a b : State) → ReachesBy found library s a
    → ReachesBy found library s b → a ≡ b
one_by_lines (Bytes bytes) library s a b p q =
    p.state_is ∙ ap (λ lines. after_lines library (commands_of 1 lines) s) (one_list bytes p.lines q.lines p.are q.are)
    ∙ sym q.state_is
one_by_lines (NoFile cause) library s a b p q = p ∙ sym q

pub one_state : OneState
one_state (Ask query) library s a b p q = p ∙ sym q
one_state (Change edit) library s a b p q = p ∙ sym q
one_state (Apply script) library s a b p q =
    one_by_lines (found_in script script_limit (get library script)) library s a b p q
one_state Rebuild library s a b p q = p ∙ sym q
one_state Check library s a b p q = p ∙ sym q
