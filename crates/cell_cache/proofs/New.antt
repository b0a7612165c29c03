-- What a new source tells.
use Rattle.std.proofs.Common.{◌≡◌, ℕ, Bool, true, false, ◌&&◌, List, [], ◌∷◌, map, cond, Option, Some, None, T, refl, sym, ap, ◌∙◌}
use Rattle.std.specs.Prelude.{is_none}
use Rattle.std.specs.List.{AllByRecursion, list_all}
use Rattle.std.specs.Ordering.{eq_by_cmp, is_eq, is_lt, int_cmp}
use Rattle.std.specs.Cmp.{tied_itself, int_cmp_total}
use Rattle.std.specs.declared.cmp.Ordering.{Ordering}
use Rattle.std.specs.declared.cmp.Ordering.TheVariants.{Less, Equal, Greater}
use Rattle.std.specs.FinMap.{get, entries, entries_sorted, from_entries, get-entries, get-from_entries, same_map, find, is_sorted}
use Rattle.std.specs.FinMap.Entries.{below_all}
use Rattle.std.proofs.lemmas.Map.Views.{tells_apart}
use Rattle.common_laws.proofs.Booleans.{left_holds, right_holds}
use Rattle.terrain_base.specs.declared.cell_key.CellKey.{CellKey}
use Rattle.terrain_base.specs.declared.post.Extremes.{Extremes}
use Rattle.terrain_base.specs.declared.summary.Summary.{Summary}
use Rattle.terrain_base.specs.CellKey.{key_cmp, keys_total}
use Rattle.terrain_base.specs.Step.{Files}
use Rattle.terrain_base.proofs.KeyOrder.{keys_exact, same_key}
use Rattle.dted_cell.specs.Cell.{extremes_in}
use Rattle.dted_cell.specs.Trouble.{IsCellAt}
use Rattle.cell_mosaic.specs.Cells.{Cells}
use Rattle.cell_mosaic.specs.Summaries.{summary_of, summaries_of}
use Rattle.cell_mosaic.specs.Whole.{key_in}
use Rattle.cell_cache.specs.declared.slot.Slot.{Slot}
use Rattle.cell_cache.specs.Cached.{file_of, same_extremes, is_cell_of, is_file_of, holds_row, entry_of, cells_told, cells_through, HoldsCells}

-- ---- entries whose keys rise are found

not_tied : (o : Ordering) → T (is_lt o) → is_eq o ≡ false
not_tied Less h = refl
not_tied Equal h = absurd h
not_tied Greater h = absurd h

none_below : (key : CellKey) (es : List (CellKey × List ℕ)) → T (below_all key_cmp key es) → find key_cmp key es ≡ None
none_below key [] h = refl
none_below key (e ∷ es) h =
    ap (λ b. cond b (Some e.1) (find key_cmp key es)) (not_tied (key_cmp key e.0) (left_holds _ (below_all key_cmp key es) h))
    ∙ none_below key es (right_holds (is_lt (key_cmp key e.0)) _ h)

past : (here : Bool) (key first : CellKey) (value bytes : List ℕ) (es : List (CellKey × List ℕ)) → (here ≡ true → key ≡ first) → find key_cmp first es ≡ None → find key_cmp key es ≡ Some bytes
    → cond here (Some value) (find key_cmp key es) ≡ Some bytes
past true key first value bytes es same none is = absurd (let none' = ap (λ k. find key_cmp k es) (same refl) ∙ none in cc)
past false key first value bytes es same none is = is

each_found : (P : CellKey → List ℕ → Type 0) (es : List (CellKey × List ℕ)) → T (is_sorted key_cmp es) → ((key : CellKey) (bytes : List ℕ) → find key_cmp key es ≡ Some bytes → P key bytes)
    → AllByRecursion (λ (e : CellKey × List ℕ). P e.0 e.1) es
each_found P [] sorted at = tt
each_found P (e ∷ es) sorted at =
    let none = none_below e.0 es (left_holds _ (is_sorted key_cmp es) sorted) in (
      at e.0 e.1 (ap (λ b. cond b (Some e.1) (find key_cmp e.0 es)) (ap is_eq (tied_itself keys_total e.0))),
      each_found P es (right_holds (below_all key_cmp e.0 es) _ sorted) (λ key bytes is.
          at key bytes (past (eq_by_cmp key_cmp key e.0) key e.0 e.1 bytes es (tells_apart keys_exact key e.0) none is)),
    )

-- ---- a cell is that of its summary

same_number : (a : Extremes) → same_extremes (Some a) (Some a) ≡ true
same_number a =
    ap (λ b. b && eq_by_cmp int_cmp a.greatest a.greatest) (ap is_eq (tied_itself int_cmp_total a.least))
    ∙ ap is_eq (tied_itself int_cmp_total a.greatest)

same_as_itself : (o : Option Extremes) → same_extremes o o ≡ true
same_as_itself None = refl
same_as_itself (Some a) = same_number a

record IsEntry (files : Files) (key : CellKey) (bytes : List ℕ) : Type 0 where
  file : file_of files key ≡ Some bytes
  cell : IsCellAt key bytes

cell_is : (key : CellKey) (bytes : List ℕ) → IsCellAt key bytes → is_cell_of (summary_of key bytes) bytes ≡ true
cell_is key bytes cell =
    let same : key_in bytes ≡ key = same_key (key_in bytes) key cell.square cell.level in
    ap (λ o. is_none o && (eq_by_cmp key_cmp (key_in bytes) key && same_extremes (extremes_in bytes) (extremes_in bytes))) cell.accepted
    ∙ ap (λ k. eq_by_cmp key_cmp k key && same_extremes (extremes_in bytes) (extremes_in bytes)) same
    ∙ ap (λ b. b && same_extremes (extremes_in bytes) (extremes_in bytes)) (ap is_eq (tied_itself keys_total key))
    ∙ same_as_itself (extremes_in bytes)

rows_held : (files : Files) (es : List (CellKey × List ℕ)) → AllByRecursion (λ (e : CellKey × List ℕ). IsEntry files e.0 e.1) es
    → list_all (holds_row files) (map (λ (e : CellKey × List ℕ). summary_of e.0 e.1) es) ≡ true
rows_held files [] all = refl
rows_held files (e ∷ es) all =
    ap (λ b. b && list_all (holds_row files) (map (λ (e : CellKey × List ℕ). summary_of e.0 e.1) es)) (ap (is_file_of (summary_of e.0 e.1)) all.0.file ∙ cell_is e.0 e.1 all.0.cell)
    ∙ rows_held files es all.1

entries_back : (files : Files) (es : List (CellKey × List ℕ)) → AllByRecursion (λ (e : CellKey × List ℕ). IsEntry files e.0 e.1) es
    → map (entry_of files) (map (λ (e : CellKey × List ℕ). summary_of e.0 e.1) es) ≡ es
entries_back files [] all = refl
entries_back files (e ∷ es) all = λ i. (e.0, Rattle.std.specs.Option.unwrap_or (all.0.file i) []) ∷ entries_back files es all.1 i

-- ---- what is told

told_rows : (files : Files) (told : Cells) → HoldsCells files told → cells_told (summaries_of told) files ≡ Some told
told_rows files told holds =
    let all = each_found (IsEntry files) (entries told) (entries_sorted told) (λ key bytes is.
    let at : get told key ≡ Some bytes = get-entries told key ∙ is in
    record { file = holds.named key bytes at; cell = (holds.sound key bytes at).cell }) in
    ap (λ b. cond b (Some (from_entries {R = key_cmp} (map (entry_of files) (summaries_of told)))) None) (rows_held files (entries told) all)
    ∙ ap (λ es. Some (from_entries {R = key_cmp} es)) (entries_back files (entries told) all)
    ∙ ap Some (same_map keys_total keys_exact (from_entries (entries told)) told (λ key. get-from_entries keys_total (entries told) key ∙ sym (get-entries told key)))

pub told_new : (rows : List Summary) (held : List (Slot × List ℕ)) (files : Files) (told : Cells) → held ≡ [] → rows ≡ summaries_of told → HoldsCells files told → cells_through rows held (Some files) ≡ Some told
told_new rows held files told empty same holds =
    ap (λ held. cells_through rows held (Some files)) empty ∙ ap (λ rows. cells_told rows files) same ∙ told_rows files told holds
