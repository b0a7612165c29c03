-- The rows of a state's cells behind an edit, and the refusal that they show.
use Rattle.std.proofs.Common.{◌≡◌, ℕ, ◌≤◌, ◌<◌, Bool, true, false, not, nat_le, cond, List, length, Option, Some, None, refl, sym, ap, subst, ◌∙◌, arith}
use Rattle.std.specs.Prelude.{if◌then◌else◌}
use Rattle.std.specs.List.{filter}
use Rattle.std.specs.Ordering.{eq_by_cmp}
use Rattle.std.specs.FinMap.{get, keys, entries, entries_sorted, insert, remove, entries-insert, get-entries, get-remove, find}
use Rattle.std.specs.FinMap.Entries.{where_key, is_sorted-where_key, find-where_key, same_entries}
use Rattle.std.proofs.lemmas.List.{length-map}
use Rattle.std.proofs.lemmas.Bool.{le-leb}
use Rattle.std.proofs.lemmas.Bool.Decides.{nat_tests}
use Rattle.terrain_base.specs.declared.cell_key.CellKey.{CellKey}
use Rattle.terrain_base.specs.declared.summary.Summary.{Summary}
use Rattle.terrain_base.specs.CellKey.{key_cmp, keys_total}
use Rattle.dted_cell.specs.Cell.{extremes_in}
use Rattle.cell_mosaic.specs.Cells.{Cells, IsSoundCell}
use Rattle.cell_mosaic.specs.Summaries.{summary_of, summaries_of}
use Rattle.database.specs.declared.answer.EngineAnswer.TheVariants.{CellPresent, CellAbsent, DatabaseFull}
use Rattle.database.specs.Cells.{AreRows, has_row}
use Rattle.database.specs.Commands.{Command, Add, Replace, Remove, Edit, PutCell, DropCell, after, has_key, refusal_of}
use Rattle.database.specs.State.{State, IsState}
use Rattle.database.proofs.Given.{keys_exact}
use Rattle.database.proofs.StateKept.{put_is_state, drop_is_state}
use Rattle.db_engine.specs.Rows.{HasRoom, with_row, without_row, rows_after, refusal_by_rows}
use Rattle.db_engine.proofs.RowLists.{shorts, put_rows, leave_rows, sorted_keys, with_row_are_rows}
use Rattle.db_files.proofs.RowKeys.{row_there, keys_of_rows}

-- ---- what the cells' rows tell

pub count_is : (cells : Cells) → length (summaries_of cells) ≡ length (keys cells)
count_is cells = length-map (entries cells) _ ∙ sym (length-map (entries cells) _)

pub state_rows : (s : State) → IsState s → AreRows (summaries_of s.cells)
state_rows s is =
    let few = is.few in
    record {
      ascend = subst (Rattle.std.specs.List.Sorted.IsStrictlySortedBy key_cmp) (sym (keys_of_rows s.cells)) (sorted_keys (entries s.cells) (entries_sorted s.cells));
      few = omega (arith, count_is s.cells, few);
    }

-- ---- behind an edit

pub put_summaries : (cells : Cells) (k : CellKey) (bytes : List ℕ) → with_row (summaries_of cells) (summary_of k bytes) ≡ summaries_of (insert cells k bytes)
put_summaries cells k bytes =
    sym (put_rows extremes_in k bytes (entries cells) (entries_sorted cells)) ∙ ap (shorts extremes_in) (sym (entries-insert keys_total cells k bytes))

other_test : (b : Bool) (found : Option (List ℕ)) → cond b None found ≡ cond (not b) found None
other_test true found = refl
other_test false found = refl

entries_left : (cells : Cells) (k : CellKey) → entries (remove cells k) ≡ where_key key_cmp (λ j. not (eq_by_cmp key_cmp j k)) (entries cells)
entries_left cells k =
    let p = λ (j : CellKey). not (eq_by_cmp key_cmp j k) in
    same_entries key_cmp keys_total keys_exact (entries (remove cells k)) (where_key key_cmp p (entries cells)) (entries_sorted (remove cells k)) (is_sorted-where_key key_cmp p (entries cells) (entries_sorted cells)) (λ q.
    sym (get-entries (remove cells k) q) ∙ get-remove keys_total cells k q ∙ other_test (eq_by_cmp key_cmp q k) (get cells q)
    ∙ ap (λ found. cond (p q) found None) (get-entries cells q)
    ∙ sym (find-where_key key_cmp p q (λ j tied. ap p (sym (keys_exact q j tied))) (entries cells)))

pub drop_summaries : (cells : Cells) (k : CellKey) → without_row (summaries_of cells) k ≡ summaries_of (remove cells k)
drop_summaries cells k =
    sym (leave_rows extremes_in (λ j. not (eq_by_cmp key_cmp j k)) (entries cells)) ∙ ap (shorts extremes_in) (sym (entries_left cells k))

pub rows_are_after : (c : Edit) (s : State) (rows : List Summary) → rows ≡ summaries_of s.cells → rows_after c rows ≡ summaries_of (after c s).cells
rows_are_after (PutCell k bytes) s rows is = ap (λ list. with_row list (summary_of k bytes)) is ∙ put_summaries s.cells k bytes
rows_are_after (DropCell k) s rows is = ap (λ list. without_row list k) is ∙ drop_summaries s.cells k

-- ---- refusals

pub refusal_is : (c : Command) (s : State) (rows : List Summary) → rows ≡ summaries_of s.cells → refusal_by_rows c rows ≡ refusal_of c s
refusal_is (Add k bytes) s rows is =
    let has : has_row rows k ≡ has_key s k = ap (λ list. has_row list k) is ∙ row_there s.cells k in
    let count : length rows ≡ length (keys s.cells) = ap length is ∙ count_is s.cells in
    λ i. if has i then Some (CellPresent k.square k.level) else (if nat_le 4096 (count i) then Some DatabaseFull else None)
refusal_is (Replace k bytes) s rows is =
    let has : has_row rows k ≡ has_key s k = ap (λ list. has_row list k) is ∙ row_there s.cells k in
    λ i. if has i then None else Some (CellAbsent k.square k.level)
refusal_is (Remove k) s rows is =
    let has : has_row rows k ≡ has_key s k = ap (λ list. has_row list k) is ∙ row_there s.cells k in
    λ i. if has i then None else Some (CellAbsent k.square k.level)

-- ---- an edit that is not refused leaves a state

abbrev pub IsSoundEdit : Edit → Type 0
IsSoundEdit (PutCell k bytes) = IsSoundCell k bytes
IsSoundEdit (DropCell k) = Unit {0}

abbrev pub HasRoomFor : Edit → List Summary → Type 0
HasRoomFor (PutCell k bytes) rows = HasRoom rows k
HasRoomFor (DropCell k) rows = Unit {0}

few_put : (s : State) (k : CellKey) (bytes : List ℕ) → IsState s → HasRoom (summaries_of s.cells) k → length (keys (insert s.cells k bytes)) ≤ 4096
few_put s k bytes is room =
    let rows = with_row_are_rows (summaries_of s.cells) (summary_of k bytes) (state_rows s is) room in
    let few = rows.few in
    let long : length (with_row (summaries_of s.cells) (summary_of k bytes)) ≡ length (keys (insert s.cells k bytes)) = ap length (put_summaries s.cells k bytes) ∙ count_is (insert s.cells k bytes) in
    omega (arith, few, long)

pub state_after : (c : Edit) (s : State) (rows : List Summary) → rows ≡ summaries_of s.cells → IsSoundEdit c → HasRoomFor c rows → IsState s → IsState (after c s)
state_after (PutCell k bytes) s rows is sound room state = put_is_state s k bytes (few_put s k bytes state (subst (λ list. HasRoom list k) is room)) sound state
state_after (DropCell k) s rows is sound room state = drop_is_state s k state

-- ---- which refusal the rows show

pub add_present : (k : CellKey) (bytes : List ℕ) (rows : List Summary) → has_row rows k ≡ true → refusal_by_rows (Add k bytes) rows ≡ Some (CellPresent k.square k.level)
add_present k bytes rows has = ap (λ b. if b then Some (CellPresent k.square k.level) else (if nat_le 4096 (length rows) then Some DatabaseFull else None)) has

pub add_full : (k : CellKey) (bytes : List ℕ) (rows : List Summary) → has_row rows k ≡ false → 4096 ≤ length rows → refusal_by_rows (Add k bytes) rows ≡ Some DatabaseFull
add_full k bytes rows has full =
    let many : nat_le 4096 (length rows) ≡ true = le-leb 4096 (length rows) full in
    λ i. if has i then Some (CellPresent k.square k.level) else (if many i then Some DatabaseFull else None)

pub add_none : (k : CellKey) (bytes : List ℕ) (rows : List Summary) → has_row rows k ≡ false → length rows < 4096 → refusal_by_rows (Add k bytes) rows ≡ None
add_none k bytes rows has less =
    let few : nat_le 4096 (length rows) ≡ false = grind (arith, nat_tests) in
    λ i. if has i then Some (CellPresent k.square k.level) else (if few i then Some DatabaseFull else None)

pub replace_absent : (k : CellKey) (bytes : List ℕ) (rows : List Summary) → has_row rows k ≡ false → refusal_by_rows (Replace k bytes) rows ≡ Some (CellAbsent k.square k.level)
replace_absent k bytes rows has = ap (λ b. if b then None else Some (CellAbsent k.square k.level)) has

pub replace_none : (k : CellKey) (bytes : List ℕ) (rows : List Summary) → has_row rows k ≡ true → refusal_by_rows (Replace k bytes) rows ≡ None
replace_none k bytes rows has = ap (λ b. if b then None else Some (CellAbsent k.square k.level)) has

pub remove_absent : (k : CellKey) (rows : List Summary) → has_row rows k ≡ false → refusal_by_rows (Remove k) rows ≡ Some (CellAbsent k.square k.level)
remove_absent k rows has = ap (λ b. if b then None else Some (CellAbsent k.square k.level)) has

pub remove_none : (k : CellKey) (rows : List Summary) → has_row rows k ≡ true → refusal_by_rows (Remove k) rows ≡ None
remove_none k rows has = ap (λ b. if b then None else Some (CellAbsent k.square k.level)) has
