-- Rows as entries in the order of their keys: what it is to put a row among them, or to leave one out.
use Rattle.std.proofs.Common.{◌≡◌, ℕ, suc, ◌+◌, ◌≤◌, ◌<◌, Bool, true, false, ◌||◌, not, is_some, cond, List, [], ◌∷◌, ◌++◌, length, map, Option, refl, sym, ap, subst, ◌∙◌, arith, T, ◌⊎◌, inl, inr}
use Rattle.std.specs.List.{AllByRecursion, filter, list_any}
use Rattle.std.specs.List.Sorted.{IsStrictlySortedBy}
use Rattle.std.specs.Ordering.{eq_by_cmp, is_lt, ordering_reverse}
use Rattle.std.specs.declared.cmp.Ordering.{Ordering}
use Rattle.std.specs.declared.cmp.Ordering.TheVariants.{Less, Equal, Greater}
use Rattle.std.specs.FinMap.{find, put, is_sorted}
use Rattle.std.specs.FinMap.Entries.{below_all, by_order, where_key, is_sorted-put, length-put, is_some-find}
use Rattle.std.proofs.lemmas.List.{length-map}
use Rattle.std.proofs.lemmas.List.Folds.{list_any-append}
use Rattle.std.proofs.lemmas.List.Kept.{IsStrictlySortedBy-filter}
use Rattle.std.proofs.lemmas.Bool.{or_left, or_right}
use Rattle.common_laws.proofs.Booleans.{both_hold, left_holds, right_holds}
use Rattle.common_laws.proofs.Orders.{less_from_holds, holds_from_less}
use Rattle.terrain_base.specs.declared.cell_key.CellKey.{CellKey}
use Rattle.terrain_base.specs.declared.post.Extremes.{Extremes}
use Rattle.terrain_base.specs.declared.summary.Summary.{Summary}
use Rattle.terrain_base.specs.CellKey.{key_cmp, keys_total}
use Rattle.database.specs.Cells.{AreRows, row_key, row_keys, has_row}
use Rattle.database.proofs.Given.{keys_exact}
use Rattle.database.proofs.Tests.{key_self, key_other}
use Rattle.db_engine.specs.Rows.{HasRoom, is_before, is_behind, with_row, without_row}
use Rattle.db_files.proofs.RowKeys.{any_key}

-- an entry in short, where something tells its extremes
abbrev pub short : {X : Type 0} → (X → Option Extremes) → CellKey × X → Summary
short told entry = record { square = entry.0.square; level = entry.0.level; extremes = told entry.1 }

abbrev pub shorts : {X : Type 0} → (X → Option Extremes) → List (CellKey × X) → List Summary
shorts told entries = map (short told) entries

-- ---- orders and tests

turned : (a b : CellKey) (o : Ordering) → key_cmp a b ≡ o → key_cmp b a ≡ ordering_reverse o
turned a b o e = keys_total.antisymm b a ∙ ap ordering_reverse e

-- what is below all entries is below what comes after it
below_all_of : {X : Type 0} (k j : CellKey) (es : List (CellKey × X)) → key_cmp k j ≡ Less → T (below_all key_cmp j es) → T (below_all key_cmp k es)
below_all_of k j [] less h = tt
below_all_of k j (e ∷ es) less h =
    both_hold _ _ (holds_from_less (key_cmp k e.0) (keys_total.trans k j e.0 less (less_from_holds _ (left_holds _ _ h)))) (below_all_of k j es less (right_holds _ _ h))

-- ---- a row among entries

none_before : {X : Type 0} (told : X → Option Extremes) (k : CellKey) (es : List (CellKey × X)) → T (below_all key_cmp k es) → filter (is_before k) (shorts told es) ≡ []
none_before told k [] h = refl
none_before told k (e ∷ es) h =
    let rest = filter (is_before k) (shorts told es) in
    ap (λ o. cond (is_lt o) (short told e ∷ rest) rest) (turned k e.0 Less (less_from_holds _ (left_holds _ _ h))) ∙ none_before told k es (right_holds _ _ h)

all_behind : {X : Type 0} (told : X → Option Extremes) (k : CellKey) (es : List (CellKey × X)) → T (below_all key_cmp k es) → filter (is_behind k) (shorts told es) ≡ shorts told es
all_behind told k [] h = refl
all_behind told k (e ∷ es) h =
    let rest = filter (is_behind k) (shorts told es) in
    ap (λ o. cond (is_lt o) (short told e ∷ rest) rest) (less_from_holds _ (left_holds _ _ h)) ∙ ap (λ rows. short told e ∷ rows) (all_behind told k es (right_holds _ _ h))

put_step : {X : Type 0} (told : X → Option Extremes) (k : CellKey) (v : X) (e : CellKey × X) (es : List (CellKey × X)) (o : Ordering) → key_cmp k e.0 ≡ o → T (below_all key_cmp e.0 es)
    → shorts told (put key_cmp k v es) ≡ filter (is_before k) (shorts told es) ++ short told (k, v) ∷ filter (is_behind k) (shorts told es)
    → shorts told (by_order o ((k, v) ∷ e ∷ es) ((e.0, v) ∷ es) (e ∷ put key_cmp k v es))
    ≡ cond (is_lt (key_cmp e.0 k)) (short told e ∷ filter (is_before k) (shorts told es)) (filter (is_before k) (shorts told es))
    ++ short told (k, v) ∷ cond (is_lt (key_cmp k e.0)) (short told e ∷ filter (is_behind k) (shorts told es)) (filter (is_behind k) (shorts told es))
put_step told k v e es Less is below ih =
    let more = turned k e.0 Less is in
    let under = below_all_of k e.0 es is below in
    let before = none_before told k es under in
    let behind = all_behind told k es under in
    sym (λ i. cond (is_lt (more i)) (short told e ∷ before i) (before i) ++ short told (k, v) ∷ cond (is_lt (is i)) (short told e ∷ behind i) (behind i))
put_step told k v e es Equal is below ih =
    let same : k ≡ e.0 = keys_exact k e.0 is in
    let back = turned k e.0 Equal is in
    let under = subst (λ j. T (below_all key_cmp j es)) (sym same) below in
    let before = none_before told k es under in
    let behind = all_behind told k es under in
    sym (λ i. cond (is_lt (back i)) (short told e ∷ before i) (before i) ++ short told (same i, v) ∷ cond (is_lt (is i)) (short told e ∷ behind i) (behind i))
put_step told k v e es Greater is below ih =
    let less = turned k e.0 Greater is in
    let before = filter (is_before k) (shorts told es) in
    let behind = filter (is_behind k) (shorts told es) in
    ap (λ rows. short told e ∷ rows) ih
    ∙ sym (λ i. cond (is_lt (less i)) (short told e ∷ before) before ++ short told (k, v) ∷ cond (is_lt (is i)) (short told e ∷ behind) behind)

-- to put an entry is to put its row between those before it and those behind it
pub put_rows : {X : Type 0} (told : X → Option Extremes) (k : CellKey) (v : X) (es : List (CellKey × X)) → T (is_sorted key_cmp es) → shorts told (put key_cmp k v es) ≡ with_row (shorts told es) (short told (k, v))
put_rows told k v [] h = refl
put_rows told k v (e ∷ es) h = put_step told k v e es (key_cmp k e.0) refl (left_holds _ _ h) (put_rows told k v es (right_holds _ _ h))

leave_step : {X : Type 0} (told : X → Option Extremes) (p : CellKey → Bool) (e : CellKey × X) (es : List (CellKey × X)) (b : Bool) → shorts told (where_key key_cmp p es) ≡ filter (λ row. p (row_key row)) (shorts told es)
    → shorts told (cond b (e ∷ where_key key_cmp p es) (where_key key_cmp p es)) ≡ cond b (short told e ∷ filter (λ row. p (row_key row)) (shorts told es)) (filter (λ row. p (row_key row)) (shorts told es))
leave_step told p e es true ih = ap (λ rows. short told e ∷ rows) ih
leave_step told p e es false ih = ih

-- to leave entries out by their keys is to leave their rows out
pub leave_rows : {X : Type 0} (told : X → Option Extremes) (p : CellKey → Bool) (es : List (CellKey × X)) → shorts told (where_key key_cmp p es) ≡ filter (λ row. p (row_key row)) (shorts told es)
leave_rows told p [] = refl
leave_rows told p (e ∷ es) = leave_step told p e es (p e.0) (leave_rows told p es)

-- ---- keys

pub keys_of_shorts : {X : Type 0} (told : X → Option Extremes) (es : List (CellKey × X)) → row_keys (shorts told es) ≡ map (λ e. e.0) es
keys_of_shorts told [] = refl
keys_of_shorts told (e ∷ es) = ap (λ keys. e.0 ∷ keys) (keys_of_shorts told es)

below_keys : {X : Type 0} (k : CellKey) (es : List (CellKey × X)) → T (below_all key_cmp k es) → AllByRecursion (λ j. key_cmp k j ≡ Less) (map (λ e. e.0) es)
below_keys k [] h = tt
below_keys k (e ∷ es) h = (less_from_holds (key_cmp k e.0) (left_holds _ _ h), below_keys k es (right_holds _ _ h))

pub sorted_keys : {X : Type 0} (es : List (CellKey × X)) → T (is_sorted key_cmp es) → IsStrictlySortedBy key_cmp (map (λ e. e.0) es)
unfolding IsStrictlySortedBy
sorted_keys [] h = tt
sorted_keys (e ∷ es) h = (below_keys e.0 es (left_holds _ _ h), sorted_keys es (right_holds _ _ h))

-- ---- rows as entries

abbrev entries_of : List Summary → List (CellKey × Option Extremes)
entries_of rows = map (λ row. (row_key row, row.extremes)) rows

rows_back : (rows : List Summary) → shorts (λ told. told) (entries_of rows) ≡ rows
rows_back [] = refl
rows_back (row ∷ rows) = ap (λ list. row ∷ list) (rows_back rows)

below_entries : (k : CellKey) (rows : List Summary) → AllByRecursion (λ j. key_cmp k j ≡ Less) (row_keys rows) → T (below_all key_cmp k (entries_of rows))
below_entries k [] h = tt
below_entries k (row ∷ rows) h = both_hold _ _ (holds_from_less (key_cmp k (row_key row)) h.0) (below_entries k rows h.1)

sorted_entries : (rows : List Summary) → IsStrictlySortedBy key_cmp (row_keys rows) → T (is_sorted key_cmp (entries_of rows))
unfolding IsStrictlySortedBy
sorted_entries [] h = tt
sorted_entries (row ∷ rows) h = both_hold _ _ (below_entries (row_key row) rows h.0) (sorted_entries rows h.1)

entry_keys : (rows : List Summary) → map (λ (e : CellKey × Option Extremes). e.0) (entries_of rows) ≡ row_keys rows
entry_keys [] = refl
entry_keys (row ∷ rows) = ap (λ keys. row_key row ∷ keys) (entry_keys rows)

with_entries : (rows : List Summary) (row : Summary) → AreRows rows → with_row rows row ≡ shorts (λ told. told) (put key_cmp (row_key row) row.extremes (entries_of rows))
with_entries rows row are =
    ap (λ list. with_row list row) (sym (rows_back rows)) ∙ sym (put_rows (λ told. told) (row_key row) row.extremes (entries_of rows) (sorted_entries rows are.ascend))

fits_by : (b : Bool) (n : ℕ) → n ≤ 4096 → (b ≡ true) ⊎ (n < 4096) → cond b n (n + 1) ≤ 4096
fits_by true n few room = few
fits_by false n few (inl e) = absurd (cc)
fits_by false n few (inr less) = omega (arith, less)

-- a row in its place among rows that ascend leaves them ascending, and not too many where there was room
pub with_row_are_rows : (rows : List Summary) (row : Summary) → AreRows rows → HasRoom rows (row_key row) → AreRows (with_row rows row)
with_row_are_rows rows row are room =
    let es = entries_of rows in
    let k = row_key row in
    let sorted = sorted_entries rows are.ascend in
    let now = put key_cmp k row.extremes es in
    let there : is_some (find key_cmp k es) ≡ has_row rows k = is_some-find key_cmp k es ∙ ap (list_any (eq_by_cmp key_cmp k)) (entry_keys rows) ∙ sym (any_key rows k) in
    let count : length now ≡ cond (has_row rows k) (length es) (length es + 1) = length-put key_cmp keys_total k row.extremes es sorted ∙ ap (λ b. cond b (length es) (length es + 1)) there in
    let long : length es ≡ length rows = length-map rows _ in
    let as_shorts : length (shorts (λ told. told) now) ≡ length now = length-map now _ in
    let fits : cond (has_row rows k) (length rows) (length rows + 1) ≤ 4096 = fits_by (has_row rows k) (length rows) are.few room in
    subst AreRows (sym (with_entries rows row are)) (record {
      ascend = subst (IsStrictlySortedBy key_cmp) (sym (keys_of_shorts (λ told. told) now)) (sorted_keys now (is_sorted-put key_cmp keys_total k row.extremes es sorted));
      few = subst (λ n. n ≤ 4096) (sym (as_shorts ∙ count ∙ ap (λ n. cond (has_row rows k) n (n + 1)) long)) fits;
    })

pub with_row_has : (rows : List Summary) (row : Summary) → has_row (with_row rows row) (row_key row) ≡ true
with_row_has rows row =
    let k = row_key row in
    let at = λ (other : Summary). eq_by_cmp key_cmp k (row_key other) in
    list_any-append at (filter (is_before k) rows) (row ∷ filter (is_behind k) rows) ∙ or_right _ _ (or_left _ _ (key_self k))

-- ---- rows without one

keys_step : (p : CellKey → Bool) (row : Summary) (rows : List Summary) (b : Bool) → row_keys (filter (λ row. p (row_key row)) rows) ≡ filter p (row_keys rows)
    → row_keys (cond b (row ∷ filter (λ row. p (row_key row)) rows) (filter (λ row. p (row_key row)) rows)) ≡ cond b (row_key row ∷ filter p (row_keys rows)) (filter p (row_keys rows))
keys_step p row rows true ih = ap (λ keys. row_key row ∷ keys) ih
keys_step p row rows false ih = ih

filter_keys : (p : CellKey → Bool) (rows : List Summary) → row_keys (filter (λ row. p (row_key row)) rows) ≡ filter p (row_keys rows)
filter_keys p [] = refl
filter_keys p (row ∷ rows) = keys_step p row rows (p (row_key row)) (filter_keys p rows)

shorter_step : (n m : ℕ) (b : Bool) (row : Summary) (xs : List Summary) → length xs ≤ n → length (cond b (row ∷ xs) xs) ≤ suc n
shorter_step n m true row xs le = omega (arith, le)
shorter_step n m false row xs le = omega (arith, le)

shorter : (p : Summary → Bool) (rows : List Summary) → length (filter p rows) ≤ length rows
shorter p [] = omega arith
shorter p (row ∷ rows) = shorter_step (length rows) 0 (p row) row (filter p rows) (shorter p rows)

pub without_row_are_rows : (rows : List Summary) (k : CellKey) → AreRows rows → AreRows (without_row rows k)
without_row_are_rows rows k are =
    let p = λ (j : CellKey). not (eq_by_cmp key_cmp j k) in
    let less : length (without_row rows k) ≤ length rows = shorter (λ row. p (row_key row)) rows in
    let few = are.few in
    record {
      ascend = subst (IsStrictlySortedBy key_cmp) (sym (filter_keys p rows)) (IsStrictlySortedBy-filter key_cmp p (row_keys rows) are.ascend);
      few = omega (arith, less, few);
    }

other_way : (k j : CellKey) → eq_by_cmp key_cmp j k ≡ false → eq_by_cmp key_cmp k j ≡ false
other_way k j apart = key_other k j (λ same. let e : eq_by_cmp key_cmp j k ≡ true = subst (λ i. eq_by_cmp key_cmp j i ≡ true) (sym same) (key_self j) in cc)

gone_step : (k : CellKey) (row : Summary) (rows : List Summary) (b : Bool) → eq_by_cmp key_cmp (row_key row) k ≡ b → has_row rows k ≡ false → has_row (cond (not b) (row ∷ rows) rows) k ≡ false
gone_step k row rows true is ih = ih
gone_step k row rows false is ih = ap (λ b. b || has_row rows k) (other_way k (row_key row) is) ∙ ih

pub without_row_gone : (rows : List Summary) (k : CellKey) → has_row (without_row rows k) k ≡ false
without_row_gone [] k = refl
without_row_gone (row ∷ rows) k = gone_step k row (without_row rows k) (eq_by_cmp key_cmp (row_key row) k) refl (without_row_gone rows k)

-- no rows
none_ascend : IsStrictlySortedBy key_cmp (row_keys [])
unfolding IsStrictlySortedBy
none_ascend = tt

pub none_are_rows : (rows : List Summary) → rows ≡ [] → AreRows rows
none_are_rows rows none = subst AreRows (sym none) (record { ascend = none_ascend; few = omega arith })
