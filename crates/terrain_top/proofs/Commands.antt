-- How each command comes to its last text.
use Rattle.std.proofs.Common.{◌≡◌, ◌⊎◌, ℕ, ◌<◌, ◌≤◌, List, [], ◌∷◌, length, Option, Some, None, Result, Ok, Err, IfErr, IfOk, IfSome, codes, refl, sym, subst, arith, length-append}
use Rattle.std.specs.FinMap.{get}
use Rattle.terrain_base.specs.declared.params.Params.{Params}
use Rattle.terrain_base.specs.Library.{LibraryFiles}
use Rattle.terrain_base.specs.Step.{Files}
use Rattle.dted_cell.specs.declared.refusal.CellRefusal.{CellRefusal}
use Rattle.dted_cell.specs.Refusal.{refusal_of}
use Rattle.terrain_base.specs.declared.square.Square.{Square}
use Rattle.hgt_cells.specs.declared.refusal.HgtRefusal.{HgtRefusal}
use Rattle.hgt_cells.specs.Cell.{hgt_cell_text}
use Rattle.hgt_cells.specs.Name.{square_named}
use Rattle.hgt_cells.specs.Refusal.{hgt_refusal_of}
use Rattle.hgt_cells.specs.Text.{hgt_refusal_text_of}
use Rattle.hgt_cells.proofs.CellLaws.{cell_has_bytes}
use Rattle.mesh_check.specs.declared.verdict.Verdict as mesh
use Rattle.mesh_check.specs.declared.verdict.Verdict.TheVariants as of_mesh
use Rattle.mesh_codec.specs.declared.refusal.TileRefusal.{TileRefusal}
use Rattle.mesh_codec.specs.Refusal.{tile_refusal_of}
use Rattle.report_text.specs.Cell.{cell_line_of}
use Rattle.report_text.specs.Finding.{finding_text_of}
use Rattle.report_text.specs.Refusal.{cell_refusal_of}
use Rattle.report_text.specs.Tile.{audit_line_of}
use Rattle.report_text.specs.TileRefusal.{tile_refusal_text_of}
use Rattle.top_words.specs.Words.{Command, DatabaseCommand, Init, Database, ReadCell, Audit, Migrate, Convert, Trial}
use Rattle.database.specs.Opening as opens
use Rattle.top_reply.specs.declared.status.Status.{Status}
use Rattle.top_reply.specs.declared.stop.Stop.{Stop}
use Rattle.top_reply.specs.declared.stop.Stop.TheVariants as stop
use Rattle.top_reply.specs.Audit.{IsAuditReply, IsTileReply, IsTileReplyBy, verdict_reply}
use Rattle.top_reply.specs.Cell.{cell_reply, read_reply, read_reply_by}
use Rattle.top_reply.specs.Convert.{bad_name_text, convert_by, convert_reply, converted, converted_by}
use Rattle.top_reply.specs.Course.{Course, Goes, IsSaid, StopsIn, World, said, text_turn}
use Rattle.top_reply.specs.Database.{init_course}
use Rattle.top_reply.specs.File.{Found, Bytes, NoFile, IsReplyBy, cell_limit, found_in, reply_by, tile_limit}
use Rattle.top_reply.specs.Reply.{Reply}
use Rattle.top_reply.specs.Status.{IsAnswer}
use Rattle.top_reply.specs.Top.{HasCourse, IsCourseOf, Tells, database_reads, reads_file, touches_store, usage_reply}
use Rattle.top_reply.specs.Trial.{IsTrialCourse}
use Rattle.terrain_top.specs.declared.answer.Answer.{Answer}
use Rattle.terrain_top.specs.Comes.{Comes}
use Rattle.terrain_top.specs.Says.{Says, SaysSome}
use Rattle.terrain_top.specs.Told.{HasOfDatabase, HasMigrated}
use Rattle.terrain_top.proofs.Coming.{comes_as, not_begun, said_comes}
use Rattle.terrain_top.proofs.EditsGo.{some_behind, some_cause, some_line}
use Rattle.terrain_top.proofs.Scripts.{on_ok}
use Rattle.top_reply.proofs.OneCourse.{one_audit}

-- ---- replies to files are not empty

some_cell : (bytes : List ℕ) (refusal : Option CellRefusal) → 0 < length (read_reply_by bytes refusal).text
some_cell bytes None = some_line (cell_line_of bytes)
some_cell bytes (Some refusal) = some_cause (cell_refusal_of refusal)

some_verdict : (bytes : List ℕ) (verdict : mesh.Verdict) → 0 < length (verdict_reply bytes verdict).text
some_verdict bytes of_mesh.Good = omega (arith, length-append (audit_line_of bytes) (codes "\ngood\n"))
some_verdict bytes (of_mesh.Found finding) = some_behind (audit_line_of bytes) (finding_text_of finding) (codes "\n")

some_tile : (bytes : List ℕ) (refusal : Option TileRefusal) (reply : Reply) → IsTileReplyBy bytes refusal reply
    → 0 < length reply.text
some_tile bytes None reply is = subst (λ r. 0 < length r.text) (sym is.reply_is) (some_verdict bytes is.verdict)
some_tile bytes (Some refusal) reply is =
    subst (λ r. 0 < length r.text) (sym is) (some_cause (tile_refusal_text_of refusal))

some_raster : (square : Square) (bytes : List ℕ) (refusal : Option HgtRefusal)
    → 0 < length (converted_by square bytes refusal).text
some_raster square bytes None = cell_has_bytes square bytes
some_raster square bytes (Some refusal) = some_cause (hgt_refusal_text_of refusal)

some_found : (read : List ℕ → Reply) → ((bytes : List ℕ) → 0 < length (read bytes).text) → (found : Found)
    → 0 < length (reply_by read found).text
some_found read some (Bytes bytes) = some bytes
some_found read some (NoFile cause) = some_cause cause

pub some_cell_reply : (file : List ℕ) (held : Option (List ℕ)) → 0 < length (cell_reply file held).text
some_cell_reply file held =
    some_found read_reply (λ bytes. some_cell bytes (refusal_of bytes)) (found_in file cell_limit held)

pub some_audit_reply : (file : List ℕ) (held : Option (List ℕ)) (reply : Reply) → IsAuditReply file held reply
    → 0 < length reply.text
some_audit_reply file held reply is = by_found (found_in file tile_limit held) reply is
  where
    by_found : (found : Found) (reply : Reply) → IsReplyBy IsTileReply found reply → 0 < length reply.text
    by_found (Bytes bytes) reply is = some_tile bytes (tile_refusal_of bytes) reply is
    by_found (NoFile cause) reply is = subst (λ r. 0 < length r.text) (sym is) (some_cause cause)

some_convert : (named : Option Square) (file : List ℕ) (held : Option (List ℕ)) → 0 < length (convert_by named file held).text
some_convert None file held = some_cause (bad_name_text file)
some_convert (Some square) file held =
    some_found (converted square) (λ bytes. some_raster square bytes (hgt_refusal_of bytes)) (found_in file cell_limit held)

pub some_convert_reply : (file : List ℕ) (held : Option (List ℕ)) → 0 < length (convert_reply file held).text
some_convert_reply file held = some_convert (square_named file) file held

-- ---- a command that asks the library alone

asks_stop : (reply : Reply) (w w' : World) (result : Result Answer Stop)
    → IfErr result (λ e. (e ≡ stop.Input) ⊎ (e ≡ stop.NoMemory)) → w'.held ≡ w.held → w'.log ≡ w.log → w'.taken ≡ w.taken
    → IfErr result (λ e. StopsIn e (text_turn reply.text ∷ []) w w')
asks_stop reply w w' (Ok a) which held log taken = tt
asks_stop reply w w' (Err e) which held log taken = not_begun (text_turn reply.text) [] w w' e held log taken which

told_says : (replies : LibraryFiles → Reply) (books : LibraryFiles) (library : Option LibraryFiles)
    (result : Result Answer Stop) → library ≡ Some books
    → IfOk result (λ a. IfSome library (λ held. Says (replies held) a)) → IfOk result (Says (replies books))
told_says replies books library (Ok a) is says = subst (λ o. IfSome o (λ held. Says (replies held) a)) is says
told_says replies books library (Err e) is says = tt

pub read_comes : (replies : LibraryFiles → Reply) (books : LibraryFiles) (library : Option LibraryFiles) (course : Course)
    (w w' : World) (result : Result Answer Stop) → library ≡ Some books → course ≡ said (replies books)
    → 0 < length (replies books).text → IfOk result (λ a. IfSome library (λ held. Says (replies held) a))
    → IfErr result (λ e. (e ≡ stop.Input) ⊎ (e ≡ stop.NoMemory)) → w'.held ≡ w.held → w'.log ≡ w.log → w'.taken ≡ w.taken
    → w'.work ≤ w.work → Comes course w w' result
read_comes replies books library course w w' result is course_is some says which held log taken few =
    comes_as (said (replies books)) course w w' result (sym course_is)
    (said_comes (replies books) w w' result (told_says replies books library result is says) some held log taken few
    (asks_stop (replies books) w w' result which held log taken))

-- an answer says the reply that is told by a relation
told_some : (Is : LibraryFiles → Reply → Type 0) → ((books : LibraryFiles) (a b : Reply) → Is books a → Is books b → a ≡ b)
    → (books : LibraryFiles) (library : Option LibraryFiles) (reply : Reply) (result : Result Answer Stop)
    → library ≡ Some books → Is books reply → IfOk result (λ a. IfSome library (λ held. SaysSome (Is held) a))
    → IfOk result (Says reply)
told_some Is one books library reply (Ok a) tells is says =
    let some : SaysSome (Is books) a = subst (λ o. IfSome o (λ held. SaysSome (Is held) a)) tells says in
    subst (λ r. Says r a) (one books some.reply reply some.is is) some.says
told_some Is one books library reply (Err e) tells is says = tt

audit_of : List ℕ → LibraryFiles → Reply → Type 0
audit_of file books reply = IsAuditReply file (get books file) reply

pub audit_comes : (file : List ℕ) (books : LibraryFiles) (library : Option LibraryFiles) (course : Course) (w w' : World)
    (result : Result Answer Stop) → library ≡ Some books → IsSaid (IsAuditReply file (get books file)) course
    → IfOk result (λ a. IfSome library (λ held. SaysSome (IsAuditReply file (get held file)) a))
    → IfErr result (λ e. (e ≡ stop.Input) ⊎ (e ≡ stop.NoMemory)) → w'.held ≡ w.held → w'.log ≡ w.log → w'.taken ≡ w.taken
    → w'.work ≤ w.work → Comes course w w' result
unfolding audit_of
audit_comes file books library course w w' result tells is says which held log taken few =
    comes_as (said is.reply) course w w' result (sym is.course_is)
    (said_comes is.reply w w' result
    (told_some (audit_of file) (λ books. one_audit file (get books file)) books library is.reply result tells is.is says)
    (some_audit_reply file (get books file) is.reply is.is) held log taken few
    (asks_stop is.reply w w' result which held log taken))

-- ---- each has a course

some_opening : opens.Opening
some_opening = opens.OldVersion 0

pub told_cell : (file : List ℕ) (held : Option Files) (library : Option LibraryFiles) (files : Files) (books : LibraryFiles)
    (result : Result Answer Stop) → Tells (reads_file (Some (ReadCell file))) library books
    → IfOk result (λ a. HasCourse (Some (ReadCell file)) held library)
told_cell file held library files books result tells = on_ok result (record {
  course = said (cell_reply file (get books file));
  is = record { files = files; books = books; opening = some_opening; store_tells = tt; library_tells = tells; opens = tt; is = refl };
})

pub told_convert : (file : List ℕ) (held : Option Files) (library : Option LibraryFiles) (files : Files)
    (books : LibraryFiles) (result : Result Answer Stop) → Tells (reads_file (Some (Convert file))) library books
    → IfOk result (λ a. HasCourse (Some (Convert file)) held library)
told_convert file held library files books result tells = on_ok result (record {
  course = said (convert_reply file (get books file));
  is = record { files = files; books = books; opening = some_opening; store_tells = tt; library_tells = tells; opens = tt; is = refl };
})

pub told_audit : (file : List ℕ) (held : Option Files) (library : Option LibraryFiles) (files : Files) (books : LibraryFiles)
    (result : Result Answer Stop) → library ≡ Some books
    → IfOk result (λ a. IfSome library (λ held. SaysSome (IsAuditReply file (get held file)) a))
    → IfOk result (λ a. HasCourse (Some (Audit file)) held library)
told_audit file held library files books (Ok a) tells says =
    let some : SaysSome (IsAuditReply file (get books file)) a =
    subst (λ o. IfSome o (λ held. SaysSome (IsAuditReply file (get held file)) a)) tells says in
    record {
      course = said some.reply;
      is = record {
        files = files;
        books = books;
        opening = some_opening;
        store_tells = tt;
        library_tells = tells;
        opens = tt;
        is = record { reply = some.reply; is = some.is; course_is = refl };
      };
    }
told_audit file held library files books (Err e) tells says = tt

pub told_init : (params : Params) (held : Option Files) (library : Option LibraryFiles) (files : Files)
    (books : LibraryFiles) (result : Result Answer Stop) → held ≡ Some files
    → IfOk result (λ a. HasCourse (Some (Init params)) held library)
told_init params held library files books result is = on_ok result (record {
  course = init_course params files;
  is = record { files = files; books = books; opening = some_opening; store_tells = is; library_tells = tt; opens = tt; is = refl };
})

pub told_migrate : (held : Option Files) (library : Option LibraryFiles) (files : Files) (books : LibraryFiles)
    (result : Result Answer Stop) → held ≡ Some files → IfOk result (λ a. HasMigrated files)
    → IfOk result (λ a. HasCourse (Some Migrate) held library)
told_migrate held library files books (Ok a) is has = record {
  course = has.0;
  is = record { files = files; books = books; opening = some_opening; store_tells = is; library_tells = tt; opens = tt; is = has.1 };
}
told_migrate held library files books (Err e) is has = tt

pub told_trial : (count number : ℕ) (held : Option Files) (library : Option LibraryFiles) (files : Files)
    (books : LibraryFiles) (result : Result Answer Stop)
    → IfOk result (λ a. (course : Course) × IsTrialCourse count number course)
    → IfOk result (λ a. HasCourse (Some (Trial count number)) held library)
told_trial count number held library files books (Ok a) has = record {
  course = has.0;
  is = record { files = files; books = books; opening = some_opening; store_tells = tt; library_tells = tt; opens = tt; is = has.1 };
}
told_trial count number held library files books (Err e) has = tt

pub told_database : (command : DatabaseCommand) (held : Option Files) (library : Option LibraryFiles) (files : Files)
    (books : LibraryFiles) (result : Result Answer Stop) → held ≡ Some files
    → Tells (database_reads command) library books → IfOk result (λ a. HasOfDatabase command books files)
    → IfOk result (λ a. HasCourse (Some (Database command)) held library)
told_database command held library files books (Ok a) is tells has = record {
  course = has.course;
  is = record {
    files = files;
    books = books;
    opening = has.opening;
    store_tells = is;
    library_tells = tells;
    opens = has.opens;
    is = has.is;
  };
}
told_database command held library files books (Err e) is tells has = tt

-- ---- no command

pub no_command : (held : Option Files) (library : Option LibraryFiles) (files : Files) (books : LibraryFiles)
    → HasCourse None held library
no_command held library files books = record {
  course = said usage_reply;
  is = record { files = files; books = books; opening = some_opening; store_tells = tt; library_tells = tt; opens = tt; is = refl };
}

pub as_goes : (a b : Course) (w w' : World) (status : Status) → a ≡ b → Goes a w w' status → Goes b w w' status
as_goes a b w w' status e goes = subst (λ x. Goes x w w' status) e goes

-- ---- by the one meaning

pub meant_goes : (meaning other : Option Command) (held : Option Files) (library : Option LibraryFiles) (w w' : World)
    (status : Status) → meaning ≡ other
    → ((course : Course) → IsCourseOf other held library course → Goes course w w' status)
    → (course : Course) → IsCourseOf meaning held library course → Goes course w w' status
meant_goes meaning other held library w w' status e goes =
    subst (λ m. (course : Course) → IsCourseOf m held library course → Goes course w w' status) (sym e) goes

pub meant_has : (meaning other : Option Command) (held : Option Files) (library : Option LibraryFiles) (files : Files)
    (books : LibraryFiles) (status : Status) → meaning ≡ other
    → ((files : Files) (books : LibraryFiles) → Tells (touches_store other) held files → Tells (reads_file other) library books
    → IsAnswer status → HasCourse other held library)
    → Tells (touches_store meaning) held files → Tells (reads_file meaning) library books → IsAnswer status
    → HasCourse meaning held library
meant_has meaning other held library files books status e has = subst
    (λ m. (files : Files) (books : LibraryFiles) → Tells (touches_store m) held files → Tells (reads_file m) library books
    → IsAnswer status → HasCourse m held library) (sym e) has files books
