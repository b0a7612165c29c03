-- The states that a command leads through, over files that stand for a state and over files that only read as one.
use Rattle.std.proofs.Common.{◌≡◌, ◌⊎◌, ℕ, zero, suc, ◌<◌, Bool, true, false, nat_le, nat_lt, List, [], ◌∷◌, ◌++◌, length, take, Option, Some, None, refl, sym, ap, subst, ◌∙◌, inl, inr, arith}
use Rattle.std.proofs.lemmas.Bool.Decides.{nat_tests}
use Rattle.std.specs.Prelude.{slice_index, if◌then◌else◌}
use Rattle.std.specs.FinMap.{get, keys}
use Rattle.terrain_base.specs.declared.cell_key.CellKey.{CellKey}
use Rattle.terrain_base.specs.Library.{LibraryFiles}
use Rattle.terrain_base.specs.Overwrite.{all_changed}
use Rattle.terrain_base.specs.Step.{Files, Step}
use Rattle.manifest_lines.specs.declared.state.State.TheVariants.{Closed}
use Rattle.dted_cell.specs.declared.refusal.CellRefusal.{CellRefusal}
use Rattle.dted_cell.specs.Refusal as cell
use Rattle.cell_mosaic.specs.Cells.{IsSoundCell}
use Rattle.cell_mosaic.specs.Summaries.{summaries_of}
use Rattle.cell_mosaic.specs.Whole.{key_in}
use Rattle.db_manifest.specs.Manifest.{ManifestState}
use Rattle.top_words.specs.Words.{Edit, Add, Replace, Remove, DatabaseCommand, Ask, Change, Apply, Rebuild, Check}
use Rattle.database.specs.declared.answer.EngineAnswer.{EngineAnswer}
use Rattle.database.specs.declared.answer.EngineAnswer.TheVariants.{CellPresent, CellAbsent, DatabaseFull}
use Rattle.database.specs.Commands as database
use Rattle.database.specs.Commands.{Command, after, calls, edit_of, has_key, rebuild_calls, refusal_of, settling}
use Rattle.database.specs.State.{State, IsState, AreFiles, ReadsAs, ReadsFor, StandsMarked, StandsFor}
use Rattle.database.proofs.Command.{command_stands, command_ends}
use Rattle.database.proofs.Settled.{settling_fronts, settling_files, settling_reads}
use Rattle.database.proofs.Starting.{calls_stand, calls_end, files_stand}
use Rattle.db_engine.proofs.CellRows.{IsSoundEdit, HasRoomFor, count_is, state_after}
use Rattle.db_engine.proofs.EditReads.{edit_closed, edit_reads, settles_closed}
use Rattle.db_engine.proofs.Starts.{has_all}
use Rattle.top_reply.specs.Check.{check_course}
use Rattle.top_reply.specs.Course.{Course, Turn, quiet_turn, said, text_turn}
use Rattle.top_reply.specs.Database.{IsApplied, IsOpenedCourse, rebuilt_course}
use Rattle.top_reply.specs.Edits.{Wanted, Refused, Wants, command_reply_by, edit_course, edit_reply, wanted, wanted_by, wanted_of, wanted_reply}
use Rattle.top_reply.specs.File.{Found, Bytes, NoFile, HoldsBytes, cell_limit, found_in, script_limit, too_long_text}
use Rattle.top_reply.specs.Lines.{Numbered, after_lines, commands_of, done_in, ended_text, line_reply, lines_course, refused_in, states_of, turns_of, wanted_at}
use Rattle.top_reply.specs.Passed.{Passes, PassesBy, Reaches, ReachesBy}
use Rattle.top_reply.specs.Reply.{refused_reply}
use Rattle.top_reply.proofs.OneLines.{one_list}
use Rattle.top_reply.proofs.Paths.{Leads, Path, last_behind, last_of, path_append}
use Rattle.db_files.proofs.RowKeys.{row_there}

-- ---- two ways in which files are those of a state

-- What holds of them, `Is` where a run may stop and `Ends` behind each turn: an edit leads them from a state to the one
-- after it, and a rebuilding leaves them those of the state.
pub record AreKept (Is Ends : Files → State → Type 0) : Type 0 where
  pub are : (s : State) (files : Files) → Ends files s → Is files s
  pub state : (s : State) (files : Files) → Ends files s → IsState s
  pub edit : (c : database.Edit) (s : State) (files : Files) → IsState (after c s) → Ends files s
      → Leads Is (calls c s) files s (after c s) × Ends (all_changed (calls c s) files) (after c s)
  pub rebuild : (s : State) (files : Files) → Ends files s
      → Leads Is (rebuild_calls files s) files s s × Ends (all_changed (rebuild_calls files s) files) s

-- they are the state's files, and stand for it until then
abbrev pub AreSettled : Files → State → Type 0
AreSettled files s = AreFiles files s × IsState s

-- they read as the state, closed
abbrev pub ReadClosed : Files → State → Type 0
ReadClosed files s = ReadsAs files s Closed

stand_now : (s : State) (files : Files) → AreSettled files s → StandsFor files s
stand_now s files ends = record { mark = Closed; stands = files_stand s files ends.1 ends.0 }

stand_still : (s : State) (files now : Files) → StandsFor files s → (now ≡ files) ⊎ StandsFor now s → StandsFor now s
stand_still s files now stands (inl same) = subst (λ f. StandsFor f s) (sym same) stands
stand_still s files now stands (inr still) = still

read_still : (s : State) (files now : Files) → ReadClosed files s → (now ≡ files) ⊎ StandsFor now s → ReadsFor now s
read_still s files now reads (inl same) =
    record { mark = Closed; reads = subst (λ f. ReadsAs f s Closed) (sym same) reads }
read_still s files now reads (inr still) = record { mark = still.mark; reads = still.stands.reads }

-- of files that stand for the state
pub stand_kept : AreKept StandsFor AreSettled
stand_kept = record {
  are = stand_now;
  state = λ s files ends. ends.1;
  edit = λ c s files state ends.
      let stands = files_stand s files ends.1 ends.0 in
      let ended : AreSettled (all_changed (calls c s) files) (after c s) =
      (command_ends c s files state stands, state) in (
        record {
          begins = record { mark = Closed; stands = stands };
          fronts = command_stands c s files state stands;
          ends = stand_now (after c s) (all_changed (calls c s) files) ended;
        },
        ended,
      );
  rebuild = λ s files ends.
      let stands = stand_now s files ends in
      let held = has_all (files_stand s files ends.1 ends.0).reads in
      let ended : AreSettled (all_changed (rebuild_calls files s) files) s = (calls_end s files held, ends.1) in (
        record {
          begins = stands;
          fronts = λ n le. inl (stand_still s files (all_changed (take n (rebuild_calls files s)) files) stands
              (calls_stand s files held n le));
          ends = stand_now s (all_changed (rebuild_calls files s) files) ended;
        },
        ended,
      );
}

-- of files that only read as it
pub read_kept : AreKept ReadsFor ReadClosed
read_kept = record {
  are = λ s files reads. record { mark = Closed; reads = reads };
  state = λ s files reads. reads.state;
  edit = λ c s files state reads.
      let ended = edit_closed c s files state reads in (
        record {
          begins = record { mark = Closed; reads = reads };
          fronts = edit_reads c s files state reads;
          ends = record { mark = Closed; reads = ended };
        },
        ended,
      );
  rebuild = λ s files reads.
      let held = has_all reads in
      let now = all_changed (rebuild_calls files s) files in
      let ended = (files_stand s now reads.state (calls_end s files held)).reads in (
        record {
          begins = record { mark = Closed; reads = reads };
          fronts = λ n le. inl (read_still s files (all_changed (take n (rebuild_calls files s)) files) reads
              (calls_stand s files held n le));
          ends = record { mark = Closed; reads = ended };
        },
        ended,
      );
}

-- ---- settling

pub settling_stands : (s : State) (mark : ManifestState) (files : Files) → StandsMarked files s mark
    → Leads StandsFor (settling mark files s) files s s × AreSettled (all_changed (settling mark files s) files) s
settling_stands s mark files stands =
    let ended : AreSettled (all_changed (settling mark files s) files) s =
    (settling_files mark s files stands, stands.reads.state) in (
      record {
        begins = record { mark = mark; stands = stands };
        fronts = λ n le. inl (settling_fronts mark s files stands n le);
        ends = stand_now s (all_changed (settling mark files s) files) ended;
      },
      ended,
    )

pub settling_still_reads : (s : State) (mark : ManifestState) (files : Files) → ReadsAs files s mark
    → Leads ReadsFor (settling mark files s) files s s × ReadClosed (all_changed (settling mark files s) files) s
settling_still_reads s mark files reads =
    let ended = settles_closed mark s files reads in (
      record {
        begins = record { mark = mark; reads = reads };
        fronts = λ n le. inl (settling_reads mark s files reads n le);
        ends = record { mark = Closed; reads = ended };
      },
      ended,
    )

-- ---- an edit that is accepted leaves a state

not_full_by : (full : Bool) (n : ℕ) (answer : EngineAnswer) → nat_le 4096 n ≡ full
    → (if full then Some answer else None) ≡ None → n < 4096
not_full_by true n answer is none = absurd (cc)
not_full_by false n answer is none = grind (arith, nat_tests)

room_by : (has : Bool) (n : ℕ) (answer full : EngineAnswer)
    → (if has then Some answer else (if nat_le 4096 n then Some full else None)) ≡ None → n < 4096
room_by true n answer full none = absurd (cc)
room_by false n answer full none = not_full_by (nat_le 4096 n) n full refl none

held_by : (has : Bool) (answer : EngineAnswer) → (if has then None else Some answer) ≡ None → has ≡ true
held_by true answer none = refl
held_by false answer none = absurd (cc)

-- there is room for a cell that is added, and one that is replaced has its row
room_for : (c : Command) (s : State) → refusal_of c s ≡ None → HasRoomFor (edit_of c) (summaries_of s.cells)
room_for (database.Add key bytes) s none =
    let few = room_by (has_key s key) (length (keys s.cells)) (CellPresent key.square key.level) DatabaseFull none in
    inr (omega (arith, few, count_is s.cells))
room_for (database.Replace key bytes) s none =
    inl (row_there s.cells key ∙ held_by (has_key s key) (CellAbsent key.square key.level) none)
room_for (database.Remove key) s none = tt

accepted_state : (c : Command) (s : State) → refusal_of c s ≡ None → IsSoundEdit (edit_of c) → IsState s
    → IsState (after (edit_of c) s)
accepted_state c s none sound state =
    state_after (edit_of c) s (summaries_of s.cells) refl sound (room_for c s none) state

-- ---- what is wanted of a library of bytes puts sound cells

abbrev pub IsSoundWanted : Wanted → Type 0
IsSoundWanted (Refused cause) = Unit {0}
IsSoundWanted (Wants c) = IsSoundEdit (edit_of c)

-- a command that puts the bytes of a cell under its key
abbrev PutsSound : (CellKey → List ℕ → Command) → Type 0
PutsSound make = (key : CellKey) (bytes : List ℕ) → IsSoundCell key bytes → IsSoundEdit (edit_of (make key bytes))

bytes_sound : (make : CellKey → List ℕ → Command) → PutsSound make → (bytes : List ℕ)
    → ((k : ℕ) → slice_index bytes k < 256) → (refusal : Option CellRefusal) → cell.refusal_of bytes ≡ refusal
    → IsSoundWanted (wanted_by make bytes refusal)
bytes_sound make puts bytes each None none =
    puts (key_in bytes) bytes (record { each = each; cell = record { accepted = none; square = refl; level = refl } })
bytes_sound make puts bytes each (Some refusal) is = tt

limit_sound : (make : CellKey → List ℕ → Command) → PutsSound make → (cause bytes : List ℕ)
    → ((k : ℕ) → slice_index bytes k < 256) → (long : Bool)
    → IsSoundWanted (wanted_of make (if long then NoFile cause else Bytes bytes))
limit_sound make puts cause bytes each true = tt
limit_sound make puts cause bytes each false = bytes_sound make puts bytes each (cell.refusal_of bytes) refl

found_sound : (make : CellKey → List ℕ → Command) → PutsSound make → (file : List ℕ) (held : Option (List ℕ))
    → ((bytes : List ℕ) → held ≡ Some bytes → (k : ℕ) → slice_index bytes k < 256)
    → IsSoundWanted (wanted_of make (found_in file cell_limit held))
found_sound make puts file None each = tt
found_sound make puts file (Some bytes) each =
    limit_sound make puts (too_long_text file cell_limit) bytes (each bytes refl) (nat_lt cell_limit (length bytes))

edit_sound : (edit : Edit) (library : LibraryFiles) → HoldsBytes library → IsSoundWanted (wanted edit library)
edit_sound (Add file) library holds =
    found_sound database.Add (λ key bytes sound. sound) file (get library file) (holds file)
edit_sound (Replace file) library holds =
    found_sound database.Replace (λ key bytes sound. sound) file (get library file) (holds file)
edit_sound (Remove key) library holds = tt

line_sound : (edit : Option Edit) (library : LibraryFiles) → HoldsBytes library → IsSoundWanted (wanted_at edit library)
line_sound None library holds = tt
line_sound (Some edit) library holds = edit_sound edit library holds

-- ---- what a command reaches

lines_end : (library : LibraryFiles) (lines : List Numbered) (s : State)
    → last_of s (states_of library lines s) ≡ after_lines library lines s
lines_end library [] s = refl
lines_end library (line ∷ lines) s = lines_end library lines (line_reply library line s).next

-- a course has states that the command passes, and it reaches the last of them
pub record Passage (command : DatabaseCommand) (library : LibraryFiles) (s : State) : Type 0 where
  pub states : List State
  pub passes : Passes command library s states
  pub reaches : Reaches command library s (last_of s states)

record PassageBy (found : Found) (library : LibraryFiles) (s : State) : Type 0 where
  states : List State
  passes : PassesBy found library s states
  reaches : ReachesBy found library s (last_of s states)

applied_passage : (found : Found) (library : LibraryFiles) (s : State) (course : Course)
    → IsApplied found library s course → PassageBy found library s
applied_passage (Bytes bytes) library s course is =
    let commands = commands_of 1 is.lines in record {
      states = states_of library commands s ++ after_lines library commands s ∷ [];
      passes = record { lines = is.lines; are = is.are; states_are = refl };
      reaches = record {
        lines = is.lines;
        are = is.are;
        state_is = last_behind (states_of library commands s) s (after_lines library commands s);
      };
    }
applied_passage (NoFile cause) library s course is = record { states = s ∷ []; passes = refl; reaches = refl }

pub passage : (command : DatabaseCommand) (library : LibraryFiles) (s : State) (files : Files) (course : Course)
    → IsOpenedCourse command library s files course → Passage command library s
passage (Ask query) library s files course is = record { states = s ∷ []; passes = refl; reaches = refl }
passage (Change edit) library s files course is =
    record { states = (edit_reply edit library s).next ∷ []; passes = refl; reaches = refl }
passage (Apply script) library s files course is =
    let by = applied_passage (found_in script script_limit (get library script)) library s course is in
    record { states = by.states; passes = by.passes; reaches = by.reaches }
passage Rebuild library s files course is = record { states = s ∷ []; passes = refl; reaches = refl }
passage Check library s files course is = record { states = s ∷ []; passes = refl; reaches = refl }

-- ---- the path of each command

no_front : (P : Files → Type 0) (files : Files) (n : ℕ) → P files → P (all_changed (take n []) files)
no_front P files zero holds = holds
no_front P files (suc n) holds = holds

module _ (Is Ends : Files → State → Type 0) (kept : AreKept Is Ends) where
  none_leads : (s : State) (files : Files) → Ends files s → Leads Is [] files s s
  none_leads s files ends = record {
    begins = kept.are s files ends;
    fronts = λ n le. inl (no_front (λ now. Is now s) files n (kept.are s files ends));
    ends = kept.are s files ends;
  }

  text_path : (text : List ℕ) (s : State) (files : Files) → Ends files s
      → Path Is Ends files s (text_turn text ∷ []) (s ∷ [])
  text_path text s files ends = (none_leads s files ends, ends)

  by_refusal : (c : Command) (s : State) (refusal : Option EngineAnswer) → refusal_of c s ≡ refusal
      → IsSoundEdit (edit_of c) → (files : Files) → Ends files s → let reply = command_reply_by c s refusal in
      Leads Is reply.steps files s reply.next × Ends (all_changed reply.steps files) reply.next
  by_refusal c s None none sound files ends =
      kept.edit (edit_of c) s files (accepted_state c s none sound (kept.state s files ends)) ends
  by_refusal c s (Some answer) is sound files ends = (none_leads s files ends, ends)

  wanted_leads : (want : Wanted) (s : State) → IsSoundWanted want → (files : Files) → Ends files s
      → let reply = wanted_reply want s in
      Leads Is reply.steps files s reply.next × Ends (all_changed reply.steps files) reply.next
  wanted_leads (Refused cause) s sound files ends = (none_leads s files ends, ends)
  wanted_leads (Wants c) s sound files ends = by_refusal c s (refusal_of c s) refl sound files ends

  lines_path : (library : LibraryFiles) → HoldsBytes library → (lines : List Numbered) (s : State) (files : Files)
      → Ends files s → Path Is Ends files s (turns_of library lines s) (states_of library lines s)
  lines_path library holds [] s files ends = ends
  lines_path library holds (line ∷ lines) s files ends =
      let reply = line_reply library line s in
      let leads = wanted_leads (wanted_at line.edit library) s (line_sound line.edit library holds) files ends in
      (leads.0, lines_path library holds lines reply.next (all_changed reply.steps files) leads.1)

  script_path : (library : LibraryFiles) → HoldsBytes library → (lines : List Numbered) (s : State) (files : Files)
      → Ends files s → Path Is Ends files s (lines_course library lines s).turns
      (states_of library lines s ++ after_lines library lines s ∷ [])
  script_path library holds lines s files ends =
      let text = ended_text (done_in library lines s) (refused_in library lines s) in
      let states = states_of library lines s in
      path_append Is Ends (turns_of library lines s) (text_turn text ∷ []) states (after_lines library lines s ∷ []) s
      files (lines_path library holds lines s files ends)
      (λ now ended. subst (λ t. Path Is Ends now (last_of s states) (text_turn text ∷ []) (t ∷ []))
      (lines_end library lines s) (text_path text (last_of s states) now ended))

  path_as : (turns turns' : List Turn) (states states' : List State) (s : State) (files : Files) → turns' ≡ turns
      → states' ≡ states → Path Is Ends files s turns states → Path Is Ends files s turns' states'
  path_as turns turns' states states' s files p q path = rw p (rw q path)

  applied_path : (found : Found) (library : LibraryFiles) → HoldsBytes library → (s : State) (files : Files)
      (course : Course) (states : List State) → IsApplied found library s course → PassesBy found library s states
      → Ends files s → Path Is Ends files s course.turns states
  applied_path (Bytes bytes) library holds s files course states is passes ends =
      let lines = commands_of 1 is.lines in
      let same : commands_of 1 passes.lines ≡ lines =
      ap (commands_of 1) (one_list bytes passes.lines is.lines passes.are is.are) in
      path_as (lines_course library lines s).turns course.turns
      (states_of library lines s ++ after_lines library lines s ∷ []) states s files
      (ap (λ (c : Course). c.turns) is.course_is)
      (passes.states_are ∙ ap (λ commands. states_of library commands s ++ after_lines library commands s ∷ []) same)
      (script_path library holds lines s files ends)
  applied_path (NoFile cause) library holds s files course states is passes ends =
      path_as (said (refused_reply cause)).turns course.turns (s ∷ []) states s files (ap (λ (c : Course). c.turns) is)
      passes (text_path (refused_reply cause).text s files ends)

  pub opened_path : (command : DatabaseCommand) (library : LibraryFiles) → HoldsBytes library → (s : State)
      (files : Files) (course : Course) (states : List State) → IsOpenedCourse command library s files course
      → Passes command library s states → Ends files s → Path Is Ends files s course.turns states
  opened_path (Ask query) library holds s files course states is passes ends =
      path_as (said is.reply).turns course.turns (s ∷ []) states s files (ap (λ (c : Course). c.turns) is.course_is)
      passes (text_path is.reply.text s files ends)
  opened_path (Change edit) library holds s files course states is passes ends =
      let reply = edit_reply edit library s in
      path_as (edit_course reply).turns course.turns (reply.next ∷ []) states s files
      (ap (λ (c : Course). c.turns) is) passes
      (wanted_leads (wanted edit library) s (edit_sound edit library holds) files ends)
  opened_path (Apply script) library holds s files course states is passes ends =
      applied_path (found_in script script_limit (get library script)) library holds s files course states is passes
      ends
  opened_path Rebuild library holds s files course states is passes ends =
      path_as (rebuilt_course s files).turns course.turns (s ∷ []) states s files (ap (λ (c : Course). c.turns) is)
      passes (kept.rebuild s files ends)
  opened_path Check library holds s files course states is passes ends =
      path_as (check_course s is.verdict).turns course.turns (s ∷ []) states s files
      (ap (λ (c : Course). c.turns) is.course_is) passes (none_leads s files ends, ends)

  -- once the files are settled
  pub settled_path : (command : DatabaseCommand) (library : LibraryFiles) → HoldsBytes library → (s : State)
      (files : Files) (steps : List Step) (tiles : ℕ)
      → Leads Is steps files s s × Ends (all_changed steps files) s
      → (rest : Course) (states : List State) → IsOpenedCourse command library s (all_changed steps files) rest
      → Passes command library s states → Path Is Ends files s (quiet_turn steps tiles ∷ rest.turns) (s ∷ states)
  settled_path command library holds s files steps tiles leads rest states is passes =
      (leads.0, opened_path command library holds s (all_changed steps files) rest states is passes leads.1)
