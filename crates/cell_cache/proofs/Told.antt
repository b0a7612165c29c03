-- What is told of a cell that is held or fetched, and what is told after it.
use Rattle.std.proofs.Common.{◌≡◌, ◌+◌, ◌<◌, ℕ, Bool, true, ◌&&◌, ◌⊎◌, inl, inr, List, [], ◌∷◌, Contains, map, cond, Option, Some, None, refl, sym, ap, ◌∙◌, subst}
use Rattle.std.specs.Prelude.{is_some, IfSome, IsFalse, Result, Ok, Err}
use Rattle.std.specs.List.{list_all}
use Rattle.std.specs.Cmp.Lexicographic.{pointwise_decides}
use Rattle.std.proofs.lemmas.Bool.Decides.{Decides-eqb}
use Rattle.std.specs.FinMap.{get, from_entries}
use Rattle.std.specs.FinSet.{contains}
use Rattle.lru.proofs.Splits.{Contains-head, Contains-tail, Contains-cons, Contains-nil}
use Rattle.terrain_base.specs.declared.cell_key.CellKey.{CellKey}
use Rattle.terrain_base.specs.declared.level.CellLevel.{CellLevel}
use Rattle.terrain_base.specs.declared.level.CellLevel.TheVariants.{Zero, One, Two}
use Rattle.terrain_base.specs.declared.post.Post.{Post}
use Rattle.terrain_base.specs.declared.summary.Summary.{Summary}
use Rattle.terrain_base.specs.CellKey.{key_cmp}
use Rattle.terrain_base.specs.Level.{level_number, rows_of, columns_of}
use Rattle.terrain_base.specs.Step.{Files}
use Rattle.terrain_base.proofs.KeyOrder.{same_key}
use Rattle.terrain_base.proofs.SquareTexts.{same_square}
use Rattle.dted_cell.specs.Cell.{columns_in, rows_in, post_in}
use Rattle.dted_cell.specs.Trouble.{IsCellAt}
use Rattle.cell_mosaic.specs.Cells.{Cells, HasPost, post_at, post_or_void}
use Rattle.cell_mosaic.specs.Source.{GivesTold}
use Rattle.cell_mosaic.specs.Value.{quad_round}
use Rattle.cell_mosaic.specs.Whole.{key_in}
use Rattle.cell_mosaic.specs.declared.fault.SourceFault.{SourceFault}
use Rattle.cell_cache.specs.declared.slot.Slot.{Slot}
use Rattle.cell_cache.specs.Cached.{shapes_of_rows, file_of, holds_row, entry_of, is_same, is_fresh, cells_told, cells_through, IsHeldAt, AreHeld}
use Rattle.cell_cache.specs.CachedLaws.{both, told_at, keys_told, told_over}
use Rattle.cell_cache.specs.Fetched.{IsFetched}
use Rattle.cell_mosaic.specs.declared.quad.Quad.{Quad}
use Rattle.cell_cache.specs.Held.{Reaches, ReachesRound, IsHeldQuad}
use Rattle.cell_cache.specs.Slot.{slot_at}

-- ---- slots tell keys apart

level_exact : (a b : CellLevel) → level_number a ≡ level_number b → a ≡ b
level_exact Zero Zero e = refl
level_exact One One e = refl
level_exact Two Two e = refl
level_exact Zero One e = absurd (cc)
level_exact Zero Two e = absurd (cc)
level_exact One Zero e = absurd (cc)
level_exact One Two e = absurd (cc)
level_exact Two Zero e = absurd (cc)
level_exact Two One e = absurd (cc)

pub slot_exact : (a b : CellKey) → slot_at a ≡ slot_at b → a ≡ b
slot_exact a b e =
    same_key a b (same_square a.square b.square (ap (λ (s : Slot). s.lat) e) (ap (λ (s : Slot). s.lon) e)) (level_exact a.level b.level (ap (λ (s : Slot). s.level) e))

-- ---- a cell of a key

pub has_place : (rows : List Summary) (key : CellKey) (col row : ℕ) (bytes : List ℕ) → HasPost (shapes_of_rows rows) key col row → IsCellAt key bytes → (col < columns_in bytes) × (row < rows_in bytes)
unfolding columns_in rows_in
has_place rows key col row bytes has cell =
    let same : key ≡ key_in bytes = same_key key (key_in bytes) (sym cell.square) (sym cell.level) in
    (subst (λ k. col < columns_of k.square k.level) same has.in_col, subst (λ k. row < rows_of k.level) same has.in_row)

-- what is held in the slot of a key is a cell of it
pub held_cell : (rows : List Summary) (held : List (Slot × List ℕ)) (key : CellKey) (bytes : List ℕ) → AreHeld rows held → Contains held (slot_at key, bytes) → key_in bytes ≡ key
held_cell rows held key bytes all there = sym (slot_exact key (key_in bytes) (all (slot_at key) bytes there).placed)

cell_of_key : (key : CellKey) (bytes : List ℕ) (rows : List Summary) (slot : Slot) → IsHeldAt rows slot bytes → key_in bytes ≡ key → IsCellAt key bytes
cell_of_key key bytes rows slot at same = record { accepted = at.accepted; square = ap (λ (k : CellKey). k.square) same; level = ap (λ (k : CellKey). k.level) same }

pub reaches : (rows : List Summary) (held : List (Slot × List ℕ)) (key : CellKey) (col row : ℕ) → AreHeld rows held → HasPost (shapes_of_rows rows) key col row → Reaches held key col row
reaches rows held key col row all has bytes there =
    has_place rows key col row bytes has (cell_of_key key bytes rows (slot_at key) (all (slot_at key) bytes there) (held_cell rows held key bytes all there))

pub reaches_round : (rows : List Summary) (held : List (Slot × List ℕ)) (key : CellKey) (col row : ℕ) (on_column on_row : Bool) → AreHeld rows held
    → HasPost (shapes_of_rows rows) key col row → (IsFalse on_column → HasPost (shapes_of_rows rows) key (col + 1) row) → (IsFalse on_row → HasPost (shapes_of_rows rows) key col (row + 1))
    → ReachesRound held key col row on_column on_row
reaches_round rows held key col row on_column on_row all sw se nw bytes there = record {
  in_col = (reaches rows held key col row all sw bytes there).0;
  in_row = (reaches rows held key col row all sw bytes there).1;
  next_col = λ off. (reaches rows held key (col + 1) row all (se off) bytes there).0;
  next_row = λ off. (reaches rows held key col (row + 1) all (nw off) bytes there).1;
}

-- ---- what is told of it

same_of : (o : Option (List ℕ)) (bytes : List ℕ) → is_same o bytes ≡ true → o ≡ Some bytes
same_of None bytes is = absurd (cc)
same_of (Some other) bytes is = ap Some ((pointwise_decides Decides-eqb other bytes).0 is)

pub fresh_of : (files : Files) (bytes : List ℕ) → file_of files (key_in bytes) ≡ Some bytes → is_fresh files bytes ≡ true
fresh_of files bytes is = ap (λ o. is_same o bytes) is ∙ (pointwise_decides Decides-eqb bytes bytes).1 refl

each_fresh : (files : Files) (held : List (Slot × List ℕ)) (slot : Slot) (bytes : List ℕ) → list_all (λ (entry : Slot × List ℕ). is_fresh files entry.1) held ≡ true → Contains held (slot, bytes) → is_fresh files bytes ≡ true
each_fresh files [] slot bytes all there = absurd (Contains-nil (slot, bytes) there)
each_fresh files (entry ∷ held) slot bytes all there =
    let tests = both (is_fresh files entry.1) (list_all (λ (entry : Slot × List ℕ). is_fresh files entry.1) held) all in
    elim (Contains-cons entry held (slot, bytes) there) [
      | inl same ↦ ap (λ (e : Slot × List ℕ). is_fresh files e.1) (sym same) ∙ tests.0
      | inr later ↦ each_fresh files held slot bytes tests.1 later
    ]

all_fresh : (files : Files) (held : List (Slot × List ℕ)) → ((slot : Slot) (bytes : List ℕ) → Contains held (slot, bytes) → is_fresh files bytes ≡ true) → list_all (λ (entry : Slot × List ℕ). is_fresh files entry.1) held ≡ true
all_fresh files [] each = refl
all_fresh files (entry ∷ held) each =
    ap (λ b. b && list_all (λ (entry : Slot × List ℕ). is_fresh files entry.1) held) (each entry.0 entry.1 (Contains-head entry held))
    ∙ all_fresh files held (λ slot bytes there. each slot bytes (Contains-tail entry held (slot, bytes) there))

-- where the cells are told, those of the summaries' keys are told and held under their names
pub record IsTold (files : Files) (told : Cells) (key : CellKey) : Type 0 where
  pub bytes : List ℕ
  pub told_is : get told key ≡ Some bytes
  pub file : file_of files key ≡ Some bytes
  pub cell : IsCellAt key bytes

told_of : (rows : List Summary) (files : Files) (told : Cells) (key : CellKey) (found : Option (List ℕ)) → list_all (holds_row files) rows ≡ true → from_entries {R = key_cmp} (map (entry_of files) rows) ≡ told
    → is_some found ≡ true → get told key ≡ found → IsTold files told key
told_of rows files told key None good made some is = absurd (cc)
told_of rows files told key (Some bytes) good made some is =
    let at = told_at files rows key bytes good (ap (λ (cells : Cells). get cells key) made ∙ is) in
    record { bytes = bytes; told_is = is; file = at.file; cell = at.cell }

pub is_told : (rows : List Summary) (held : List (Slot × List ℕ)) (files : Files) (told : Cells) (key : CellKey) → contains (shapes_of_rows rows) key ≡ true → cells_through rows held (Some files) ≡ Some told → IsTold files told key
is_told rows held files told key known is =
    let over = told_over rows held files told is in
    told_of rows files told key (get told key) over.good over.told_is
    (ap (λ (cells : Cells). is_some (get cells key)) (sym over.told_is) ∙ keys_told files rows key ∙ known) refl

-- the post of the bytes under the name of a key is the one that is told
pub post_told : (rows : List Summary) (held : List (Slot × List ℕ)) (files : Option Files) (key : CellKey) (col row : ℕ) (bytes : List ℕ) → contains (shapes_of_rows rows) key ≡ true
    → IfSome files (λ files. file_of files key ≡ Some bytes) → (told : Cells) → cells_through rows held files ≡ Some told → post_in bytes col row ≡ post_at told key col row
post_told rows held None key col row bytes known under told is = absurd (cc)
post_told rows held (Some files) key col row bytes known under told is =
    let at = is_told rows held files told key known is in
    ap (λ o. post_or_void o col row) (sym under ∙ at.file ∙ sym at.told_is)

-- and so is that of a cell that is held, where all are fresh
held_under : (rows : List Summary) (held : List (Slot × List ℕ)) (files : Files) (told : Cells) (key : CellKey) (bytes : List ℕ) → AreHeld rows held → Contains held (slot_at key, bytes)
    → cells_through rows held (Some files) ≡ Some told → file_of files key ≡ Some bytes
held_under rows held files told key bytes all there is =
    let over = told_over rows held files told is in
    ap (file_of files) (sym (held_cell rows held key bytes all there)) ∙ same_of (file_of files (key_in bytes)) bytes (each_fresh files held (slot_at key) bytes over.fresh there)

pub held_told : (rows : List Summary) (held : List (Slot × List ℕ)) (files : Option Files) (key : CellKey) (col row : ℕ) (bytes : List ℕ) → AreHeld rows held → contains (shapes_of_rows rows) key ≡ true
    → Contains held (slot_at key, bytes) → (told : Cells) → cells_through rows held files ≡ Some told → post_in bytes col row ≡ post_at told key col row
held_told rows held None key col row bytes all known there told is = absurd (cc)
held_told rows held (Some files) key col row bytes all known there told is =
    post_told rows held (Some files) key col row bytes known (held_under rows held files told key bytes all there is) told is

-- and so are the posts round a point
pub round_told : (rows : List Summary) (held : List (Slot × List ℕ)) (files : Option Files) (key : CellKey) (col row : ℕ) (on_column on_row : Bool) (bytes : List ℕ) → AreHeld rows held → contains (shapes_of_rows rows) key ≡ true
    → Contains held (slot_at key, bytes) → (told : Cells) → cells_through rows held files ≡ Some told → quad_round (post_in bytes) col row on_column on_row ≡ quad_round (post_at told key) col row on_column on_row
round_told rows held files key col row on_column on_row bytes all known there told is = λ i.
    quad_round (λ c r. held_told rows held files key c r bytes all known there told is i) col row on_column on_row

pub quad_told : (rows : List Summary) (held : List (Slot × List ℕ)) (key : CellKey) (col row : ℕ) (on_column on_row : Bool)
    (found : Option Quad) → AreHeld rows held → contains (shapes_of_rows rows) key ≡ true
    → IfSome found (IsHeldQuad held key col row on_column on_row)
    → IfSome found (λ quad. (files : Option Files) (told : Cells) → cells_through rows held files ≡ Some told
    → quad ≡ quad_round (post_at told key) col row on_column on_row)
quad_told rows held key col row on_column on_row None all known is_held = tt
quad_told rows held key col row on_column on_row (Some quad) all known is_held = λ files told is.
    is_held.value ∙ round_told rows held files key col row on_column on_row is_held.bytes all known is_held.there told is

-- ---- a cell that was fetched

-- it may be held in the slot of its key
pub fetched_held : (rows : List Summary) (key : CellKey) (cell : List ℕ) (slot : Slot) (bytes : List ℕ) → contains (shapes_of_rows rows) key ≡ true → IsCellAt key cell → slot ≡ slot_at key → bytes ≡ cell → IsHeldAt rows slot bytes
fetched_held rows key cell slot bytes known is slot_is bytes_is =
    let key_is : key_in cell ≡ key = same_key (key_in cell) key is.square is.level in
    subst (λ s. IsHeldAt rows s bytes) (sym slot_is) (subst (IsHeldAt rows (slot_at key)) (sym bytes_is) (record {
      accepted = is.accepted;
      placed = ap slot_at (sym key_is);
      known = ap (contains (shapes_of_rows rows)) key_is ∙ known;
    }))

-- it has the bytes under its name
pub fetched_fresh : (files : Option Files) (key : CellKey) (cell bytes : List ℕ) → IsFetched key files cell → bytes ≡ cell → IfSome files (λ files. is_fresh files bytes ≡ true)
fetched_fresh None key cell bytes fetched bytes_is = tt
fetched_fresh (Some files) key cell bytes fetched bytes_is =
    let key_is : key_in cell ≡ key = same_key (key_in cell) key fetched.cell.square fetched.cell.level in
    subst (λ b. is_fresh files b ≡ true) (sym bytes_is) (fresh_of files cell (ap (file_of files) key_is ∙ fetched.held))

-- ---- what is told after it

-- cells that were told stay told where all that is held besides is fresh
pub still_told : (rows : List Summary) (held held' : List (Slot × List ℕ)) (files : Option Files) → ((slot : Slot) (bytes : List ℕ) → Contains held' (slot, bytes) → Contains held (slot, bytes) ⊎ IfSome files (λ files. is_fresh files bytes ≡ true))
    → (told : Cells) → cells_through rows held files ≡ Some told → cells_through rows held' files ≡ Some told
still_told rows held held' None each told is = absurd (cc)
still_told rows held held' (Some files) each told is =
    let over = told_over rows held files told is in
    ap (λ b. cond b (cells_told rows files) None) (all_fresh files held' (λ slot bytes there. elim (each slot bytes there) [
      | inl before ↦ each_fresh files held slot bytes over.fresh before
      | inr fresh ↦ fresh
    ]))
    ∙ ap (λ b. cond b (Some (from_entries {R = key_cmp} (map (entry_of files) rows))) None) over.good
    ∙ ap Some over.told_is

-- so an answer that gives what is told after it gives what was told before
pub given_before : (rows : List Summary) (held held' : List (Slot × List ℕ)) (files : Option Files) (key : CellKey) (col row : ℕ) (result : Result Post SourceFault)
    → ((slot : Slot) (bytes : List ℕ) → Contains held' (slot, bytes) → Contains held (slot, bytes)) → GivesTold (cells_through rows held' files) (λ told. post_at told key col row) result
    → GivesTold (cells_through rows held files) (λ told. post_at told key col row) result
given_before rows held held' files key col row (Ok post) none_else gives = λ told is. gives told (still_told rows held held' files (λ slot bytes there. inl (none_else slot bytes there)) told is)
given_before rows held held' files key col row (Err fault) none_else gives = tt
