-- Trouble behind the mark of a command, told of the files as the command began.
use Rattle.std.proofs.Common.{◌≡◌, Bool, true, false, ◌||◌, not, cond, List, [], ◌∷◌, Option, Some, None, Result, refl, sym, ap, subst, ◌∙◌, ◌⊎◌, ⊎_elim, ℕ}
use Rattle.std.specs.Prelude.{IfSome}
use Rattle.std.specs.FinMap.{get, insert, get-insert, get-remove}
use Rattle.std.specs.FinSet.{contains}
use Rattle.std.specs.List.{filter, list_any}
use Rattle.std.specs.Ordering.{eq_by_cmp}
use Rattle.std.proofs.lemmas.List.Folds.{list_any-append}
use Rattle.std.proofs.lemmas.Bool.{or_cases, or_left, or_right, false_from_ne_true}
use Rattle.terrain_base.specs.declared.cell_key.CellKey.{CellKey}
use Rattle.terrain_base.specs.declared.name.Key.TheVariants.{Manifest, Stage, Cell}
use Rattle.terrain_base.specs.declared.store.Change.{Change}
use Rattle.terrain_base.specs.declared.summary.Summary.{Summary}
use Rattle.terrain_base.specs.CellKey.{key_cmp}
use Rattle.terrain_base.specs.Step.{Files, Write, Erase, changed, held_after}
use Rattle.terrain_base.specs.Run.{AllDone, files_after}
use Rattle.dted_cell.specs.declared.trouble.CellTrouble.{CellTrouble}
use Rattle.dted_cell.specs.Trouble.{ShowsAt}
use Rattle.cell_mosaic.specs.Cells.{Shapes, IsSoundCell}
use Rattle.cell_mosaic.specs.Summaries.{summary_of}
use Rattle.cell_cache.specs.Cached.{shapes_of_rows}
use Rattle.cell_cache.proofs.Rows.{known_rows}
use Rattle.cell_cache.proofs.Leaving.{no_trouble}
use Rattle.database.specs.Answer.{OnlyStops}
use Rattle.database.specs.Cells.{row_key, has_row}
use Rattle.database.specs.Commands.{Edit, PutCell, DropCell}
use Rattle.database.specs.declared.answer.EngineAnswer.{EngineAnswer}
use Rattle.database.specs.declared.answer.EngineAnswer.TheVariants as answer
use Rattle.database.proofs.Given.{by_text_total}
use Rattle.database.proofs.Tests.{is_name, name_other, name_self, key_same}
use Rattle.db_files.specs.Trouble.{IsShownTrouble, IsStopOrTrouble, OnlyStopsOrRowTrouble}
use Rattle.db_files.proofs.Troubles.{stops_only, result_by}
use Rattle.db_engine.specs.Edited.{EditTrouble}
use Rattle.db_engine.specs.Holding.{IsStopOrFull}
use Rattle.db_engine.specs.Rows.{is_before, is_behind, with_row, without_row, rows_after}
use Rattle.db_engine.proofs.RowLists.{without_row_gone}
use Rattle.db_engine.proofs.EditReads.{at_other}

-- ---- a stop is no trouble

told_stop : {T : Type 0} (rows : List Summary) (held : Option Files) (result : Result T EngineAnswer) → OnlyStops result → IfSome held (λ files. OnlyStopsOrRowTrouble rows (Some files) result)
told_stop rows None result stops = tt
told_stop rows (Some files) result stops = stops_only (shapes_of_rows rows) (Some files) result stops

pub edit_stop : {T : Type 0} (edit : Edit) (rows : List Summary) (held : Option Files) (result : Result T EngineAnswer) → OnlyStops result → EditTrouble edit rows held result
edit_stop edit rows held result stops = record { any = stops_only (shapes_of_rows (rows_after edit rows)) held result stops; told = told_stop rows held result stops }

-- ---- which rows there were

any_step : (at : Summary → Bool) (x : Summary) (xs kept : List Summary) (b : Bool) → (list_any at kept ≡ true → list_any at xs ≡ true) → list_any at (cond b (x ∷ kept) kept) ≡ true → (at x || list_any at xs) ≡ true
any_step at x xs kept true later h = ⊎_elim (λ here. or_left (at x) (list_any at xs) here) (λ more. or_right (at x) (list_any at xs) (later more)) (or_cases (at x) (list_any at kept) h)
any_step at x xs kept false later h = or_right (at x) (list_any at xs) (later h)

any_kept : (at p : Summary → Bool) (rows : List Summary) → list_any at (filter p rows) ≡ true → list_any at rows ≡ true
any_kept at p [] h = h
any_kept at p (row ∷ rows) h = any_step at row rows (filter p rows) (p row) (any_kept at p rows) h

had_row : (rows : List Summary) (row : Summary) (key : CellKey) → eq_by_cmp key_cmp key (row_key row) ≡ false → has_row (with_row rows row) key ≡ true → has_row rows key ≡ true
had_row rows row key apart has =
    let at = λ (other : Summary). eq_by_cmp key_cmp key (row_key other) in
    let before = filter (is_before (row_key row)) rows in
    let behind = filter (is_behind (row_key row)) rows in
    ⊎_elim (λ first. any_kept at (is_before (row_key row)) rows first)
    (λ later. ⊎_elim (λ here. absurd (cc)) (λ last. any_kept at (is_behind (row_key row)) rows last) (or_cases (at row) (list_any at behind) later))
    (or_cases (list_any at before) (list_any at (row ∷ behind)) (sym (list_any-append at before (row ∷ behind)) ∙ has))

-- ---- over the files as the command began

-- all cells but the key's were held as they are, and with the key's there is no trouble
told_before : (key : CellKey) (files now : Files) (keys keys' : Shapes) (t : CellTrouble) → ((other : CellKey) → eq_by_cmp key_cmp other key ≡ false → contains keys' other ≡ true → contains keys other ≡ true)
    → ((other : CellKey) → eq_by_cmp key_cmp other key ≡ false → get now (Cell other) ≡ get files (Cell other))
    → (IsShownTrouble keys' (Some now) t → (other : CellKey) → contains keys' other ≡ true → ShowsAt other (get now (Cell other)) t → other ≡ key → ⊥)
    → IsShownTrouble keys' (Some now) t → IsShownTrouble keys (Some files) t
told_before key files now keys keys' t had held never is =
    let other = is.subject.key in
    let shown_at_other = subst (λ bytes. ShowsAt other bytes t) (ap (get now) is.subject.name) (is.shown other is.subject.name) in
    let apart : eq_by_cmp key_cmp other key ≡ false = false_from_ne_true _ (λ e. never is other is.subject.known shown_at_other (key_same other key e)) in
    record {
      subject = record { key = other; known = had other apart is.subject.known; name = is.subject.name; opened = is.subject.opened };
      shown = λ k name. subst (λ bytes. ShowsAt k bytes t) (ap (get now) is.subject.name ∙ held other apart ∙ sym (ap (get files) is.subject.name)) (is.shown k name);
    }

-- ---- behind the mark of a put

other_cell : (a b : CellKey) → eq_by_cmp key_cmp a b ≡ false → is_name (Cell a) (Cell b) ≡ false
other_cell a b apart = name_other (Cell a) (Cell b) (λ e. let same : a ≡ b = cc in let self : eq_by_cmp key_cmp a a ≡ false = subst (λ k. eq_by_cmp key_cmp a k ≡ false) (sym same) apart in let other = Rattle.database.proofs.Tests.key_self a in cc)

abbrev marked : Files → List ℕ → List ℕ → Files
marked files bytes text = insert (insert files Stage bytes) Manifest text

marked_left : (files : Files) (bytes text : List ℕ) (other : CellKey) → get (marked files bytes text) (Cell other) ≡ get files (Cell other)
marked_left files bytes text other =
    at_other (insert files Stage bytes) Manifest (Cell other) text (name_other (Cell other) Manifest (λ e. cc))
    ∙ at_other files Stage (Cell other) bytes (name_other (Cell other) Stage (λ e. cc))

put_told : (key : CellKey) (bytes text : List ℕ) (rows : List Summary) (files : Files) (t : CellTrouble) → IsSoundCell key bytes
    → IsShownTrouble (shapes_of_rows (with_row rows (summary_of key bytes))) (Some (insert (marked files bytes text) (Cell key) bytes)) t → IsShownTrouble (shapes_of_rows rows) (Some files) t
put_told key bytes text rows files t sound is =
    let row = summary_of key bytes in
    let now = insert (marked files bytes text) (Cell key) bytes in
    told_before key files now (shapes_of_rows rows) (shapes_of_rows (with_row rows row)) t
    (λ other apart known. known_rows rows other ∙ had_row rows row other apart (sym (known_rows (with_row rows row) other) ∙ known))
    (λ other apart. at_other (marked files bytes text) (Cell key) (Cell other) bytes (other_cell other key apart) ∙ marked_left files bytes text other)
    (λ again other known shown same.
    let there : get now (Cell key) ≡ Some bytes = get-insert by_text_total (marked files bytes text) (Cell key) bytes (Cell key) ∙ rw (name_self (Cell key)) refl in
    no_trouble key bytes t sound.cell (subst (λ held. ShowsAt key held t) there (subst (λ k. ShowsAt k (get now (Cell k)) t) same shown)))
    is

put_by : {T : Type 0} (key : CellKey) (bytes text : List ℕ) (rows : List Summary) (held : Option Files) (result : Result T EngineAnswer) → IsSoundCell key bytes
    → OnlyStopsOrRowTrouble (with_row rows (summary_of key bytes)) (held_after (Write (Cell key) bytes) (files_after (Write Stage bytes ∷ Write Manifest text ∷ []) held)) result → EditTrouble (PutCell key bytes) rows held result
put_by key bytes text rows None result sound is = record { any = is; told = tt }
put_by key bytes text rows (Some files) result sound is =
    let keys = shapes_of_rows (with_row rows (summary_of key bytes)) in
    let now = insert (marked files bytes text) (Cell key) bytes in
    record {
      any = result_by keys keys (Some files) (Some now) result (λ t shown. record { subject = shown.subject; shown = (put_told key bytes text rows files t sound shown).shown }) is;
      told = result_by (shapes_of_rows rows) keys (Some files) (Some now) result (λ t shown. put_told key bytes text rows files t sound shown) is;
    }

pub put_trouble : {T : Type 0} (key : CellKey) (bytes text : List ℕ) (rows list : List Summary) {held held' : Option Files} {log log' : Option (List Change)} (result : Result T EngineAnswer) → IsSoundCell key bytes
    → list ≡ with_row rows (summary_of key bytes) → AllDone (Write Stage bytes ∷ Write Manifest text ∷ []) held log held' log'
    → OnlyStopsOrRowTrouble list (held_after (Write (Cell key) bytes) held') result → EditTrouble (PutCell key bytes) rows held result
put_trouble key bytes text rows list {held = held} {held' = held'} result sound made done is =
    put_by key bytes text rows held result sound
    (subst (λ now. OnlyStopsOrRowTrouble (with_row rows (summary_of key bytes)) (held_after (Write (Cell key) bytes) now) result) done.held
    (subst (λ rs. OnlyStopsOrRowTrouble rs (held_after (Write (Cell key) bytes) held') result) made is))

-- ---- behind the mark of a drop

drop_told : (key : CellKey) (text : List ℕ) (rows : List Summary) (files : Files) (t : CellTrouble)
    → IsShownTrouble (shapes_of_rows (without_row rows key)) (Some (changed (Erase (Cell key)) (insert files Manifest text))) t → IsShownTrouble (shapes_of_rows rows) (Some files) t
drop_told key text rows files t is =
    let list = without_row rows key in
    told_before key files (changed (Erase (Cell key)) (insert files Manifest text)) (shapes_of_rows rows) (shapes_of_rows list) t
    (λ other apart known. known_rows rows other ∙ any_kept (λ (row : Summary). eq_by_cmp key_cmp other (row_key row)) (λ (row : Summary). not (eq_by_cmp key_cmp (row_key row) key)) rows (sym (known_rows list other) ∙ known))
    (λ other apart. get-remove by_text_total (insert files Manifest text) (Cell key) (Cell other) ∙ rw (other_cell other key apart) refl ∙ at_other files Manifest (Cell other) text (name_other (Cell other) Manifest (λ e. cc)))
    (λ again other known shown same.
    let gone : has_row list other ≡ false = ap (has_row list) same ∙ without_row_gone rows key in
    let there : has_row list other ≡ true = sym (known_rows list other) ∙ known in
    cc)
    is

drop_by : {T : Type 0} (key : CellKey) (text : List ℕ) (rows : List Summary) (held : Option Files) (result : Result T EngineAnswer)
    → OnlyStopsOrRowTrouble (without_row rows key) (held_after (Erase (Cell key)) (files_after (Write Manifest text ∷ []) held)) result → EditTrouble (DropCell key) rows held result
drop_by key text rows None result is = record { any = is; told = tt }
drop_by key text rows (Some files) result is =
    let keys = shapes_of_rows (without_row rows key) in
    let now = changed (Erase (Cell key)) (insert files Manifest text) in
    record {
      any = result_by keys keys (Some files) (Some now) result (λ t shown. record { subject = shown.subject; shown = (drop_told key text rows files t shown).shown }) is;
      told = result_by (shapes_of_rows rows) keys (Some files) (Some now) result (λ t shown. drop_told key text rows files t shown) is;
    }

pub drop_trouble : {T : Type 0} (key : CellKey) (text : List ℕ) (rows list : List Summary) {held held' : Option Files} {log log' : Option (List Change)} (result : Result T EngineAnswer)
    → list ≡ without_row rows key → AllDone (Write Manifest text ∷ []) held log held' log'
    → OnlyStopsOrRowTrouble list (held_after (Erase (Cell key)) held') result → EditTrouble (DropCell key) rows held result
drop_trouble key text rows list {held = held} {held' = held'} result made done is =
    drop_by key text rows held result
    (subst (λ now. OnlyStopsOrRowTrouble (without_row rows key) (held_after (Erase (Cell key)) now) result) done.held
    (subst (λ rs. OnlyStopsOrRowTrouble rs (held_after (Erase (Cell key)) held') result) made is))

-- ---- where there are no rows

none_known : (rows : List Summary) (key : CellKey) → rows ≡ [] → contains (shapes_of_rows rows) key ≡ true → ⊥
none_known rows key none known = let not_known : contains (shapes_of_rows rows) key ≡ false = known_rows rows key ∙ ap (λ list. has_row list key) none in cc

pub no_rows_trouble : (rows : List Summary) (held : Option Files) (e : EngineAnswer) → rows ≡ [] → IsStopOrTrouble (shapes_of_rows rows) held e → IsStopOrFull e
no_rows_trouble rows held (answer.CellPresent square level) none is = is
no_rows_trouble rows held (answer.CellAbsent square level) none is = is
no_rows_trouble rows held answer.DatabaseFull none is = is
no_rows_trouble rows held (answer.NotEmpty name) none is = tt
no_rows_trouble rows held (answer.NotADatabase line) none is = is
no_rows_trouble rows held (answer.Trouble t) none is = none_known rows is.subject.key none is.subject.known
no_rows_trouble rows held (answer.NoTile tile) none is = is
no_rows_trouble rows held (answer.TileLost name) none is = is
no_rows_trouble rows held (answer.OldVersion version) none is = is
no_rows_trouble rows held (answer.NotOld version) none is = is
no_rows_trouble rows held answer.StoreFault none is = tt
no_rows_trouble rows held answer.NoMemory none is = tt
