-- What bringing a database to the present version leaves.
use Rattle.std.proofs.Common.{◌≡◌, ℕ, ◌+◌, ◌-◌, ◌≤◌, ◌++◌, List, [], ◌∷◌, length, take, Option, Some, Result, Ok, Err, OnOk, IfSome, refl, sym, ap, subst, ◌∙◌, ◌⊎◌, inl, inr, ⊎_elim, length-append, arith}
use Rattle.std.proofs.Math.Seq.{take-append-add}
use Rattle.std.proofs.lemmas.Bool.{cases_order}
use Rattle.std.proofs.lemmas.List.{take-append-le}
use Rattle.std.specs.Prelude.{IsErrAnd, true}
use Rattle.terrain_base.specs.declared.params.Params.{Params}
use Rattle.terrain_base.specs.declared.store.Change.{Change}
use Rattle.terrain_base.specs.declared.summary.Summary.{Summary}
use Rattle.terrain_base.specs.Overwrite.{all_changed}
use Rattle.terrain_base.specs.Run.{AllDone, SomeDone, Ran, files_after}
use Rattle.terrain_base.specs.Step.{Files, Step, changed}
use Rattle.terrain_base.proofs.Overwrites.{files_of_told}
use Rattle.terrain_base.proofs.Runs.{all_as, both_done, goes_on, quiet, some_as}
use Rattle.terrain_base.proofs.Stops.{any_stop}
use Rattle.manifest_lines.specs.declared.version.Version.{Version}
use Rattle.database.specs.Answer.{IsStop}
use Rattle.database.specs.Commands.{rebuild_calls}
use Rattle.database.specs.State.{State, AreFiles, StandsFor}
use Rattle.database.specs.declared.answer.EngineAnswer.{EngineAnswer}
use Rattle.database.specs.declared.answer.EngineAnswer.TheVariants as answer
use Rattle.database.proofs.Starting.{calls_end, calls_stand}
use Rattle.db_files.specs.Serving.{Filling}
use Rattle.db_engine.specs.Opened.{Contents, contents_of}
use Rattle.db_engine.specs.Settling.{IsIdle}
use Rattle.db_old_reading.specs.declared.reading.OldReading.{OldReading}
use Rattle.db_migrate.specs.Migrated.{Brings, IsBrought, IsLeft, IsRefusal}
use Rattle.db_migrate.specs.Moves.{Keeps, moving, migrating}
use Rattle.db_old_reading.specs.OldOpening.{OldOpening, Migrates, NotOld, NotADatabase, InTrouble, MigratesAs}
use Rattle.db_old_reading.specs.OldReads.{OldMark, OldReads, OldReadsFor}
use Rattle.db_old_reading.specs.Told.{IsReadingOf, Found, IsToldBy}
use Rattle.db_migrate.proofs.CellMoves.{all_reads, front_reads, has_all}
use Rattle.db_old_reading.proofs.OldOpenings.{one_opening}

-- ---- each front

changed-append : (xs ys : List Step) (files : Files) → all_changed (xs ++ ys) files ≡ all_changed ys (all_changed xs files)
changed-append [] ys files = refl
changed-append (x ∷ xs) ys files = changed-append xs ys (changed x files)

abbrev IsEither : Version → State → Files → Type 0
IsEither v s files = OldReadsFor files v s ⊎ StandsFor files s

behind_moves : {files : Files} {v : Version} {s : State} {mark : OldMark} → OldReads files v s mark → (now : Files) → (now ≡ all_changed (moving v mark s) files) ⊎ StandsFor now s → IsEither v s now
behind_moves {v = v} {s = s} {mark = mark} r now (inl same) = inl (record { mark = mark; reads = subst (λ f. OldReads f v s mark) (sym same) (all_reads r) })
behind_moves r now (inr stands) = inr stands

near_or_far : (n k : ℕ) → (n ≤ k) ⊎ ((m : ℕ) × (n ≡ k + m))
near_or_far n k = ⊎_elim (λ same. inl (omega arith)) (λ apart. ⊎_elim (λ less. inl (omega arith)) (λ more. inr (n - k, omega arith)) apart) (cases_order n k)

by_place : {files : Files} {v : Version} {s : State} {mark : OldMark} → OldReads files v s mark → (n : ℕ) → n ≤ length (migrating v mark files s) → (n ≤ length (moving v mark s)) ⊎ ((m : ℕ) × (n ≡ length (moving v mark s) + m))
    → IsEither v s (all_changed (take n (migrating v mark files s)) files)
by_place {files = files} {v = v} {s = s} {mark = mark} r n le (inl near) =
    subst (λ steps. IsEither v s (all_changed steps files)) (sym (take-append-le n (moving v mark s) (rebuild_calls (all_changed (moving v mark s) files) s) near))
    (inl (record { mark = mark; reads = front_reads r n }))
by_place {files = files} {v = v} {s = s} {mark = mark} r n le (inr far) =
    let moves = moving v mark s in
    let after = all_changed moves files in
    let rest = rebuild_calls after s in
    let fits : far.0 ≤ length rest = let place = far.1 in omega (arith, length-append moves rest) in
    let steps : take n (moves ++ rest) ≡ moves ++ take far.0 rest = ap (λ k. take k (moves ++ rest)) far.1 ∙ take-append-add moves rest far.0 in
    let now : all_changed (take n (moves ++ rest)) files ≡ all_changed (take far.0 rest) after = ap (λ xs. all_changed xs files) steps ∙ changed-append moves (take far.0 rest) files in
    subst (IsEither v s) (sym now) (behind_moves r (all_changed (take far.0 rest) after) (calls_stand s after (has_all r) far.0 fits))

pub fronts : (files : Files) (v : Version) (s : State) (mark : OldMark) → OldReads files v s mark → (n : ℕ) → n ≤ length (migrating v mark files s) → IsEither v s (all_changed (take n (migrating v mark files s)) files)
fronts files v s mark r n le = by_place r n le (near_or_far n (length (moving v mark s)))

pub ends : (files : Files) (v : Version) (s : State) (mark : OldMark) → OldReads files v s mark → AreFiles (all_changed (migrating v mark files s) files) s
ends files v s mark r =
    let after = all_changed (moving v mark s) files in
    subst (λ f. AreFiles f s) (sym (changed-append (moving v mark s) (rebuild_calls after s) files)) (calls_end s after (has_all r))

-- ---- of a call

all_after : {before held : Option Files} {log log' : Option (List Change)} (steps : List Step) (files : Files) → before ≡ Some files → AllDone steps before log held log' → held ≡ Some (all_changed steps files)
all_after steps files is done = done.held ∙ ap (files_after steps) is ∙ files_of_told steps files

pub files_done : {before held : Option Files} {log log' : Option (List Change)} (files : Files) (v : Version) (s : State) (mark : OldMark) → before ≡ Some files → OldReads files v s mark
    → AllDone (migrating v mark files s) before log held log' → IfSome held (λ f. AreFiles f s)
files_done files v s mark is r done = subst (λ o. IfSome o (λ f. AreFiles f s)) (sym (all_after (migrating v mark files s) files is done)) (ends files v s mark r)

pub brings_of : {T E : Type 0} {before held : Option Files} {log log' : Option (List Change)} (files : Files) (v : Version) (s : State) (mark : OldMark) (result : Result T E) → before ≡ Some files → OldReads files v s mark
    → Ran (migrating v mark files s) before log held log' result → Brings v s held result
brings_of files v s mark (Ok value) is r ran = record {
  ok = files_done files v s mark is r ran.ok;
  err = tt;
}
brings_of {held = held} {log = log} {log' = log'} files v s mark (Err e) is r ran = record {
  ok = tt;
  err = any_stop (IsEither v s) (migrating v mark files s) files (subst (λ b. SomeDone (migrating v mark files s) b log held log') is ran.err) (fronts files v s mark r);
}

-- behind the moves the store holds each cell under its name
pub filling : {files : Files} {v : Version} {s : State} {mark : OldMark} {old : OldReading} {before held : Option Files} {log log' : Option (List Change)} (params : Params) (rows : List Summary) → IsReadingOf files v s mark old → params ≡ old.params → rows ≡ old.rows.items
    → before ≡ Some files → AllDone (moving v mark s) before log held log' → Filling held params rows (all_changed (moving v mark s) files) s
filling {files = files} {v = v} {s = s} {mark = mark} params rows k params_are rows_are is done = record {
  held_is = all_after (moving v mark s) files is done;
  params_is = params_are ∙ k.params_is;
  rows_is = rows_are ∙ k.rows_is;
  cells = record { sound = k.reads.state.sound; named = (has_all k.reads).cells };
}

-- what was read is what the moves begin with
pub keeps : {files : Files} {v : Version} {s : State} {mark : OldMark} {old : OldReading} {held : Option Files} (rows : List Summary) → IsReadingOf files v s mark old → held ≡ Some files → rows ≡ old.rows.items → Keeps held old.version old.staged rows files s mark
keeps {files = files} {s = s} {mark = mark} rows k is same = record {
  held_is = is;
  reads = subst (λ w. OldReads files w s mark) (sym k.version_is) k.reads;
  staged_is = k.staged_is;
  rows_is = same ∙ k.rows_is;
}

-- the moves by the version of the state, behind a reading that changes nothing
pub old_done : {files : Files} {v : Version} {s : State} {mark : OldMark} {old : OldReading} {before mid held : Option Files} {log mid_log log' : Option (List Change)} → IsReadingOf files v s mark old → mid ≡ before → mid_log ≡ log
    → AllDone (moving old.version mark s) mid mid_log held log' → AllDone (moving v mark s) before log held log'
old_done {s = s} {mark = mark} k same noted done = all_as (ap (λ w. moving w mark s) k.version_is) (both_done (quiet same noted) done)

pub old_some : {files : Files} {v : Version} {s : State} {mark : OldMark} {old : OldReading} {before mid held : Option Files} {log mid_log log' : Option (List Change)} → IsReadingOf files v s mark old → mid ≡ before → mid_log ≡ log
    → SomeDone (moving old.version mark s) mid mid_log held log' → SomeDone (moving v mark s) before log held log'
old_some {s = s} {mark = mark} k same noted some = some_as (ap (λ w. moving w mark s) k.version_is) (goes_on (quiet same noted) some)

pub brought : {held : Option Files} (files : Files) (old : OldReading) (o : Contents) → (f : Found files old) → o ≡ contents_of old.params old.rows.items true → IfSome held (λ now. AreFiles now f.state) → IsBrought files held o
brought files old o f is now = record {
  version = f.version;
  state = f.state;
  mark = f.mark;
  reads = f.is.reads;
  opened = is ∙ (λ i. contents_of (f.is.params_is i) (f.is.rows_is i) true);
  brought = now;
}

-- ---- refusals

pub refusal_told : (a : EngineAnswer) (files : Files) {held : Option Files} {log log' : Option (List Change)} {work work' : ℕ} → IsToldBy files a → IsIdle files held log log' work work' → IsRefusal a files held log log' work work'
refusal_told (answer.CellPresent square level) files t idle = t
refusal_told (answer.CellAbsent square level) files t idle = t
refusal_told answer.DatabaseFull files t idle = t
refusal_told (answer.NotEmpty name) files t idle = t
refusal_told (answer.NotADatabase line) files t idle = (t, idle)
refusal_told (answer.Trouble trouble) files t idle = (t, idle)
refusal_told (answer.NoTile tile) files t idle = t
refusal_told (answer.TileLost name) files t idle = t
refusal_told (answer.OldVersion version) files t idle = t
refusal_told (answer.NotOld version) files t idle = (t, idle)
refusal_told answer.StoreFault files t idle = t
refusal_told answer.NoMemory files t idle = t

pub refusal_stop : (a : EngineAnswer) (files : Files) (held : Option Files) (log log' : Option (List Change)) (work work' : ℕ) → IsStop a → IsRefusal a files held log log' work work'
refusal_stop (answer.CellPresent square level) files held log log' work work' t = t
refusal_stop (answer.CellAbsent square level) files held log log' work work' t = t
refusal_stop answer.DatabaseFull files held log log' work work' t = t
refusal_stop (answer.NotEmpty name) files held log log' work work' t = t
refusal_stop (answer.NotADatabase line) files held log log' work work' t = absurd t
refusal_stop (answer.Trouble trouble) files held log log' work work' t = absurd t
refusal_stop (answer.NoTile tile) files held log log' work work' t = t
refusal_stop (answer.TileLost name) files held log log' work work' t = t
refusal_stop (answer.OldVersion version) files held log log' work work' t = t
refusal_stop (answer.NotOld version) files held log log' work work' t = absurd t
refusal_stop answer.StoreFault files held log log' work work' t = t
refusal_stop answer.NoMemory files held log log' work work' t = t

-- ---- files that open as no state

not_ok : {T E : Type 0} (result : Result T E) (Q : E → Type 0) → IsErrAnd result Q → OnOk result ⊥
not_ok (Ok value) Q is = absurd is
not_ok (Err e) Q is = tt

pub left_idle : {T E : Type 0} (opening : OldOpening) (files : Files) {held : Option Files} {log log' : Option (List Change)} {work work' : ℕ} (result : Result T E) (Q : E → Type 0) → IsErrAnd result Q → IsIdle files held log log' work work' → IsLeft opening files held log log' work work' result
left_idle (Migrates v s mark) files result Q is idle = tt
left_idle (NotOld version) files result Q is idle = record { idle = idle; refused = not_ok result Q is }
left_idle (NotADatabase line) files result Q is idle = record { idle = idle; refused = not_ok result Q is }
left_idle (InTrouble trouble) files result Q is idle = record { idle = idle; refused = not_ok result Q is }

-- files that read as a state open as no other
pub left_read : {T E : Type 0} (opening : OldOpening) (files : Files) (v : Version) (s : State) (mark : OldMark) (held : Option Files) (log log' : Option (List Change)) (work work' : ℕ) (result : Result T E) → OldReads files v s mark → MigratesAs files opening → IsLeft opening files held log log' work work' result
left_read (Migrates w t other) files v s mark held log log' work work' result reads opens = tt
left_read (NotOld version) files v s mark held log log' work work' result reads opens = absurd (cc (one_opening files (Migrates v s mark) (NotOld version) reads opens))
left_read (NotADatabase line) files v s mark held log log' work work' result reads opens = absurd (cc (one_opening files (Migrates v s mark) (NotADatabase line) reads opens))
left_read (InTrouble trouble) files v s mark held log log' work work' result reads opens = absurd (cc (one_opening files (Migrates v s mark) (InTrouble trouble) reads opens))
