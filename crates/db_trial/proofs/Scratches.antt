-- A database that grows by the entries of a state, one after the other.
use Rattle.std.proofs.Common.{◌≡◌, ℕ, ◌+◌, ◌≤◌, ◌<◌, true, List, [], ◌∷◌, ◌++◌, length, map, take, drop, get_or, Option, sym, ap, subst, ◌∙◌, arith}
use Rattle.std.specs.FinMap.{get, entries}
use Rattle.std.proofs.lemmas.List.{get_or-map, length-map, map-append, take_more}
use Rattle.terrain_base.specs.declared.cell_key.CellKey.{CellKey}
use Rattle.terrain_base.specs.declared.name.Key.TheVariants.{Cell}
use Rattle.terrain_base.specs.declared.summary.Summary.{Summary}
use Rattle.terrain_base.specs.Step.{Files}
use Rattle.dted_cell.specs.Trouble.{IsCellAt}
use Rattle.cell_mosaic.specs.Summaries.{summaries_of, summary_of}
use Rattle.database.specs.Cells.{row_key}
use Rattle.database.specs.Commands.{Add, next, refusal_of}
use Rattle.database.specs.State.{State}
use Rattle.db_engine.specs.Holding.{no_cells}
use Rattle.db_engine.specs.Opened.{Contents}
use Rattle.db_trial.specs.Sequence.{adds, after_all, tiles_made, tiles_of}
use Rattle.db_trial.specs.Step.{Keeps, Did, CanAdd, Built}
use Rattle.db_trial.proofs.Additions.{added_again, at_index, free, got, take_whole}
use Rattle.db_trial.proofs.Sequences.{after_more, tiles_more}

-- the entry of a row, whatever the row is where there is none
abbrev pub entry_at : State → ℕ → Summary → CellKey × List ℕ
entry_at s i row = get_or (entries s.cells) i (row_key row, [])

-- the database that has grown by so many of them
abbrev pub grown_to : State → ℕ → State
grown_to s i = after_all (map adds (take i (entries s.cells))) (no_cells s.params)

abbrev pub tiles_to : State → ℕ → ℕ
tiles_to s i = tiles_made (map adds (take i (entries s.cells))) (no_cells s.params)

-- as many entries as rows
count_of : (s : State) (rows : List Summary) → rows ≡ summaries_of s.cells → length rows ≡ length (entries s.cells)
count_of s rows is = ap length is ∙ length-map (entries s.cells) (λ entry. summary_of entry.0 entry.1)

within : (s : State) (rows : List Summary) (i : ℕ) → rows ≡ summaries_of s.cells → i < length rows → i < length (entries s.cells)
within s rows i is less = let count = count_of s rows is in omega arith

key_of_row : (s : State) (rows : List Summary) (i : ℕ) (row : Summary) → rows ≡ summaries_of s.cells → i < length rows → row ≡ get_or rows i row
    → row_key row ≡ (entry_at s i row).0
key_of_row s rows i row is less at =
    ap row_key (at ∙ ap (λ list. get_or list i row) is
    ∙ get_or-map (λ (entry : CellKey × List ℕ). summary_of entry.0 entry.1) (entries s.cells) i (row_key row, []) row (within s rows i is less))

-- the cell of a row can be added
pub can_add : {held other : Option Files} {o grown : Contents} (s : State) (rows : List Summary) (i : ℕ) (row : Summary)
    → Keeps held o s → rows ≡ o.rows → i < length rows → row ≡ get_or rows i row → Keeps other grown (grown_to s i)
    → CanAdd held row (entry_at s i row).1 other grown (grown_to s i)
can_add s rows i row keeps same less at kept =
    let is = same ∙ keeps.stands.holds.rows_is in
    let e = entry_at s i row in
    let reads = keeps.stands.holds.reads in
    let inside = within s rows i is less in
    let key = key_of_row s rows i row is less at in
    let there = got s i (row_key row, []) inside in
    let none = free (take i (entries s.cells)) (drop (i + 1) (entries s.cells)) e (grown_to s i) (at_index s i (row_key row, []) reads.state inside) in
    record {
      files = keeps.stands.holds.files;
      held_is = keeps.stands.holds.held_is;
      there = ap (λ k. get keeps.stands.holds.files (Cell k)) key ∙ reads.cells e.0 e.1 there;
      cell = subst (λ k. IsCellAt k e.1) (sym key) (reads.state.sound e.0 e.1 there).cell;
      keeps = kept;
      free = ap (λ k. refusal_of (Add k e.1) (grown_to s i)) key ∙ none;
    }

-- one entry more
more_entries : (s : State) (i : ℕ) (row : Summary) → i < length (entries s.cells)
    → map adds (take (i + 1) (entries s.cells)) ≡ map adds (take i (entries s.cells)) ++ adds (entry_at s i row) ∷ []
more_entries s i row less =
    ap (map adds) (take_more (entries s.cells) i (row_key row, []) less)
    ∙ map-append adds (take i (entries s.cells)) (entry_at s i row ∷ [])

pub did_add : {held : Option Files} {grown : Contents} {work work' : ℕ} (s : State) (rows : List Summary) (i : ℕ) (row : Summary)
    → rows ≡ summaries_of s.cells → i < length rows → row ≡ get_or rows i row
    → Did (Add (row_key row) (entry_at s i row).1) (grown_to s i) held grown work work' true
    → Keeps held grown (grown_to s (i + 1))
did_add {held = held} {grown = grown} s rows i row is less at did =
    let e = entry_at s i row in
    let inside = within s rows i is less in
    let key = key_of_row s rows i row is less at in
    let step : next (Add (row_key row) e.1) (grown_to s i) ≡ grown_to s (i + 1) =
    ap (λ k. next (Add k e.1) (grown_to s i)) key
    ∙ sym (after_more (map adds (take i (entries s.cells))) (adds e) (no_cells s.params))
    ∙ ap (λ list. after_all list (no_cells s.params)) (sym (more_entries s i row inside)) in
    subst (Keeps held grown) step did.keeps

pub few_added : {held : Option Files} {grown : Contents} {mid work' : ℕ} (work : ℕ) (s : State) (rows : List Summary) (i : ℕ) (row : Summary)
    → rows ≡ summaries_of s.cells → i < length rows → row ≡ get_or rows i row → mid ≤ work + tiles_to s i
    → Did (Add (row_key row) (entry_at s i row).1) (grown_to s i) held grown mid work' true
    → work' ≤ work + tiles_to s (i + 1)
few_added work s rows i row is less at so_far did =
    let e = entry_at s i row in
    let inside = within s rows i is less in
    let key = key_of_row s rows i row is less at in
    let one : tiles_of (Add (row_key row) e.1) (grown_to s i) ≡ tiles_of (adds e) (grown_to s i) = ap (λ k. tiles_of (Add k e.1) (grown_to s i)) key in
    let more : tiles_to s (i + 1) ≡ tiles_to s i + tiles_of (adds e) (grown_to s i) =
    ap (λ list. tiles_made list (no_cells s.params)) (more_entries s i row inside)
    ∙ tiles_more (map adds (take i (entries s.cells))) (adds e) (no_cells s.params) in
    let few = did.few in
    omega arith

-- all of them
pub built : {held other : Option Files} {o grown : Contents} {work' : ℕ} (work : ℕ) (s : State) (rows : List Summary) (i : ℕ)
    → Keeps held o s → rows ≡ o.rows → i ≡ length rows → Keeps other grown (grown_to s i) → work' ≤ work + tiles_to s i
    → Built s other grown work work'
built {other = other} {grown = grown} {work' = work'} work s rows i keeps same end kept few =
    let whole : take i (entries s.cells) ≡ entries s.cells =
    ap (λ n. take n (entries s.cells)) (end ∙ count_of s rows (same ∙ keeps.stands.holds.rows_is)) ∙ take_whole (entries s.cells) in
    record {
      keeps = subst (Keeps other grown) (ap (λ es. after_all (map adds es) (no_cells s.params)) whole ∙ added_again s keeps.stands.holds.reads.state) kept;
      few = subst (λ es. work' ≤ work + tiles_made (map adds es) (no_cells s.params)) whole few;
    }
