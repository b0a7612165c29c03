-- That what is told are cells of the summaries' keys, and depends on the files under their names alone. It stands here
-- since the proof of an impl's law may cite only what stands in specs/.
use Rattle.std.specs.Prelude.{◌≡◌, ℕ, Bool, true, false, ◌&&◌, ◌||◌, List, [], ◌∷◌, map, cond, Option, Some, None, is_some, is_none, refl}
use Rattle.std.proofs.Common.{sym, ap, ◌∙◌, subst}
use Rattle.std.proofs.lemmas.Map.Views.{tells_apart}
use Rattle.std.specs.List.{list_all, list_any}
use Rattle.std.specs.Option.{unwrap_or}
use Rattle.std.specs.Ordering.{eq_by_cmp, is_eq}
use Rattle.std.specs.Cmp.{tied_itself}
use Rattle.std.specs.FinMap.{get, get-from_entries, from_entries, find}
use Rattle.std.specs.FinMap.Entries.{is_some-find}
use Rattle.std.specs.FinSet.{contains, contains-from_list, contains-insert}
use Rattle.lru.proofs.Splits.{Contains-head, Contains-tail}
use Rattle.terrain_base.specs.declared.cell_key.CellKey.{CellKey}
use Rattle.terrain_base.specs.declared.summary.Summary.{Summary}
use Rattle.terrain_base.specs.CellKey.{key_cmp, keys_total}
use Rattle.terrain_base.specs.Step.{Files}
use Rattle.terrain_base.proofs.KeyOrder.{keys_exact}
use Rattle.dted_cell.specs.Cell.{extremes_in}
use Rattle.dted_cell.specs.Refusal.{refusal_of}
use Rattle.dted_cell.specs.Trouble.{IsCellAt}
use Rattle.cell_mosaic.specs.Cells.{Cells, AreCells}
use Rattle.cell_mosaic.specs.Source.{AlikeCells}
use Rattle.cell_mosaic.specs.Whole.{key_in}
use Rattle.cell_cache.specs.declared.slot.Slot.{Slot}
use Rattle.cell_cache.specs.Cached.{row_key, shapes_of_rows, file_of, same_extremes, is_cell_of, is_file_of, holds_row, entry_of, cells_told, is_same, is_fresh, cells_through, AreHeld}

-- ---- tests that pass

pub both : (a b : Bool) → (a && b) ≡ true → (a ≡ true) × (b ≡ true)
both true b is = (refl, is)
both false b is = absurd (cc)

pub is_nothing : {A : Type 0} (o : Option A) → is_none o ≡ true → o ≡ None
is_nothing None is = refl
is_nothing (Some x) is = absurd (cc)

-- where a choice gives something, its test passed
pub chosen : (test : Bool) (o : Option Cells) (told : Cells) → cond test o None ≡ Some told
    → (test ≡ true) × (o ≡ Some told)
chosen true o told is = (refl, is)
chosen false o told is = absurd (cc)

-- a cell of a summary is a cell of its key
pub cell_at_row : (row : Summary) (bytes : List ℕ) → is_cell_of row bytes ≡ true → IsCellAt (row_key row) bytes
cell_at_row row bytes is =
    let tests = both (is_none (refusal_of bytes))
    (eq_by_cmp key_cmp (key_in bytes) (row_key row) && same_extremes (extremes_in bytes) row.extremes) is in
    let key : key_in bytes ≡ row_key row =
    tells_apart keys_exact (key_in bytes) (row_key row)
    (both (eq_by_cmp key_cmp (key_in bytes) (row_key row))
    (same_extremes (extremes_in bytes) row.extremes) tests.1).0 in
    record {
      accepted = is_nothing (refusal_of bytes) tests.0;
      square = ap (λ (k : CellKey). k.square) key;
      level = ap (λ (k : CellKey). k.level) key;
    }

-- ---- the told cells, key by key

keys_back : (files : Files) (rows : List Summary)
    → map (λ (e : CellKey × List ℕ). e.0) (map (entry_of files) rows) ≡ map row_key rows
keys_back files [] = refl
keys_back files (row ∷ rows) = ap (λ keys. row_key row ∷ keys) (keys_back files rows)

pub keys_told : (files : Files) (rows : List Summary) (key : CellKey)
    → is_some (get (from_entries {R = key_cmp} (map (entry_of files) rows)) key) ≡ contains (shapes_of_rows rows) key
keys_told files rows key =
    ap is_some (get-from_entries keys_total (map (entry_of files) rows) key)
    ∙ is_some-find key_cmp key (map (entry_of files) rows)
    ∙ ap (list_any (eq_by_cmp key_cmp key)) (keys_back files rows)
    ∙ sym (contains-from_list keys_total (map row_key rows) key)

-- the bytes of a key are those under its name, and a cell of the key
pub record IsToldAt (files : Files) (key : CellKey) (bytes : List ℕ) : Type 0 where
  pub file : file_of files key ≡ Some bytes
  pub cell : IsCellAt key bytes

at_row : (files : Files) (row : Summary) (file : Option (List ℕ)) (bytes : List ℕ) → file_of files (row_key row) ≡ file
    → is_file_of row file ≡ true
    → ◌≡◌ {A = Option (List ℕ)} (Some (unwrap_or file [])) (Some bytes) → IsToldAt files (row_key row) bytes
at_row files row None bytes is good there = absurd (cc)
at_row files row (Some held) bytes is good there =
    let same : held ≡ bytes = cc in
    subst (IsToldAt files (row_key row)) same (record { file = is; cell = cell_at_row row held good })

at_key : (here : Bool) (files : Files) (row : Summary) (key : CellKey) (bytes : List ℕ) (rest : Option (List ℕ))
    → (here ≡ true → key ≡ row_key row) → holds_row files row ≡ true
    → (rest ≡ Some bytes → IsToldAt files key bytes)
    → cond here (Some (unwrap_or (file_of files (row_key row)) [])) rest ≡ Some bytes → IsToldAt files key bytes
at_key true files row key bytes rest same good others is =
    subst (λ k. IsToldAt files k bytes) (sym (same refl))
    (at_row files row (file_of files (row_key row)) bytes refl good is)
at_key false files row key bytes rest same good others is = others is

found_told : (files : Files) (rows : List Summary) (key : CellKey) (bytes : List ℕ)
    → list_all (holds_row files) rows ≡ true
    → find key_cmp key (map (entry_of files) rows) ≡ Some bytes → IsToldAt files key bytes
found_told files [] key bytes all is = absurd (cc)
found_told files (row ∷ rows) key bytes all is =
    let tests = both (holds_row files row) (list_all (holds_row files) rows) all in
    at_key (eq_by_cmp key_cmp key (row_key row)) files row key bytes (find key_cmp key (map (entry_of files) rows))
    (tells_apart keys_exact key (row_key row)) tests.0
    (found_told files rows key bytes tests.1) is

-- the bytes that are told of a key
pub told_at : (files : Files) (rows : List Summary) (key : CellKey) (bytes : List ℕ)
    → list_all (holds_row files) rows ≡ true
    → get (from_entries {R = key_cmp} (map (entry_of files) rows)) key ≡ Some bytes → IsToldAt files key bytes
told_at files rows key bytes all is =
    found_told files rows key bytes all (sym (get-from_entries keys_total (map (entry_of files) rows) key) ∙ is)

-- ---- the laws of a source

-- cells that are told, over these files
pub record AreToldOver (rows : List Summary) (held : List (Slot × List ℕ)) (files : Files) (told : Cells) : Type 0 where
  pub fresh : list_all (λ (entry : Slot × List ℕ). is_fresh files entry.1) held ≡ true
  pub good : list_all (holds_row files) rows ≡ true
  pub told_is : from_entries (map (entry_of files) rows) ≡ told

pub told_over : (rows : List Summary) (held : List (Slot × List ℕ)) (files : Files) (told : Cells)
    → cells_through rows held (Some files) ≡ Some told → AreToldOver rows held files told
told_over rows held files told is =
    let outer = chosen (list_all (λ (entry : Slot × List ℕ). is_fresh files entry.1) held)
    (cells_told rows files) told is in
    let inner = chosen (list_all (holds_row files) rows) (Some (from_entries (map (entry_of files) rows)))
    told outer.1 in
    record {
      fresh = outer.0;
      good = inner.0;
      told_is = let same = inner.1 in cc;
    }

pub told_agrees : (rows : List Summary) (held : List (Slot × List ℕ)) (files : Option Files) (told : Cells)
    → cells_through rows held files ≡ Some told → AreCells told (shapes_of_rows rows)
told_agrees rows held None told is = absurd (cc)
told_agrees rows held (Some files) told is =
    let over = told_over rows held files told is in
    subst (λ cells. AreCells cells (shapes_of_rows rows)) over.told_is (record {
      keys = keys_told files rows;
      each = λ key bytes at. (told_at files rows key bytes over.good at).cell;
    })

module _ (files files' : Files) where
  -- two stores hold the same under the names of these summaries
  abbrev AreAlike : List Summary → Type 0
  AreAlike rows = (key : CellKey) → contains (shapes_of_rows rows) key ≡ true → file_of files key ≡ file_of files' key

  knows_first : (row : Summary) (rows : List Summary) → contains (shapes_of_rows (row ∷ rows)) (row_key row) ≡ true
  knows_first row rows = contains-insert keys_total (shapes_of_rows rows) (row_key row) (row_key row) ∙ ap
      (λ b. b || contains (shapes_of_rows rows) (row_key row)) (ap is_eq (tied_itself keys_total (row_key row)))

  or_true : (a b : Bool) → b ≡ true → (a || b) ≡ true
  or_true true b is = refl
  or_true false b is = is

  knows_rest : (row : Summary) (rows : List Summary) (key : CellKey) → contains (shapes_of_rows rows) key ≡ true
      → contains (shapes_of_rows (row ∷ rows)) key ≡ true
  knows_rest row rows key is = contains-insert keys_total (shapes_of_rows rows) (row_key row) key ∙ or_true
      (eq_by_cmp key_cmp key (row_key row)) _ is

  same_rows : (rows : List Summary) → AreAlike rows → list_all (holds_row files) rows ≡ list_all (holds_row files') rows
  same_rows [] alike = refl
  same_rows (row ∷ rows) alike = λ i.
      is_file_of row (alike (row_key row) (knows_first row rows) i)
      && same_rows rows (λ key is. alike key (knows_rest row rows key is)) i

  same_entries : (rows : List Summary) → AreAlike rows → map (entry_of files) rows ≡ map (entry_of files') rows
  same_entries [] alike = refl
  same_entries (row ∷ rows) alike = λ i.
      (row_key row, unwrap_or (alike (row_key row) (knows_first row rows) i) [])
      ∷ same_entries rows (λ key is. alike key (knows_rest row rows key is)) i

  same_told : (rows : List Summary) → AreAlike rows → cells_told rows files ≡ cells_told rows files'
  same_told rows alike = λ i. cond (same_rows rows alike i) (Some (from_entries (same_entries rows alike i))) None

  same_fresh : (rows : List Summary) (held : List (Slot × List ℕ)) → AreAlike rows → AreHeld rows held
      → list_all (λ (entry : Slot × List ℕ). is_fresh files entry.1) held
      ≡ list_all (λ (entry : Slot × List ℕ). is_fresh files' entry.1) held
  same_fresh rows [] alike all = refl
  same_fresh rows (entry ∷ held) alike all = λ i.
      is_same (alike (key_in entry.1) (all entry.0 entry.1 (Contains-head entry held)).known i) entry.1
      && same_fresh rows held alike (λ slot bytes there.
      all slot bytes (Contains-tail entry held (slot, bytes) there)) i

pub told_by_names : (rows : List Summary) (held : List (Slot × List ℕ)) (files files' : Option Files)
    → AreHeld rows held → AlikeCells (shapes_of_rows rows) files files'
    → cells_through rows held files ≡ cells_through rows held files'
told_by_names rows held None None all alike = refl
told_by_names rows held None (Some files') all alike = absurd alike
told_by_names rows held (Some files) None all alike = absurd alike
told_by_names rows held (Some files) (Some files') all alike = λ i.
    cond (same_fresh files files' rows held alike all i) (same_told files files' rows alike i) None
