-- A search among summaries that ascend.
use Rattle.std.proofs.Common.{◌≡◌, ℕ, suc, ◌+◌, ◌<◌, ◌≤◌, Bool, false, ◌||◌, List, [], ◌∷◌, length, map, get_or, None, refl, sym, ap, subst, ◌∙◌, arith, ◌⊎◌, inl, inr}
use Rattle.std.specs.Prelude.{Result, Ok, Err, is_ok}
use Rattle.std.specs.List.{list_any}
use Rattle.std.specs.List.Sorted.{IsStrictlySortedBy, IsSearchInRange, IsBinarySearchResult, IsNonDecreasingBy}
use Rattle.std.specs.Ordering.{eq_by_cmp, is_eq, ordering_index, ordering_reverse}
use Rattle.std.specs.Cmp.{tied_itself}
use Rattle.std.specs.declared.cmp.Ordering.{Ordering}
use Rattle.std.specs.declared.cmp.Ordering.TheVariants.{Less, Equal, Greater}
use Rattle.std.specs.FinSet.{contains, contains-from_list}
use Rattle.std.proofs.lemmas.List.{get_or-map}
use Rattle.std.proofs.lemmas.List.Folds.{list_any_at}
use Rattle.std.proofs.lemmas.List.Sorted.{IsNonDecreasingBy-from_default}
use Rattle.std.proofs.lemmas.Map.Keys.{Less-from_sorted, sorted_from_all_adjacent}
use Rattle.std.proofs.Math.ListN.{length-map}
use Rattle.terrain_base.specs.declared.cell_key.CellKey.{CellKey}
use Rattle.terrain_base.specs.declared.summary.Summary.{Summary}
use Rattle.terrain_base.specs.CellKey.{key_cmp, keys_total}
use Rattle.terrain_base.proofs.KeyOrder.{keys_exact}
use Rattle.cell_cache.specs.Cached.{row_key, shapes_of_rows}

none_of : {X : Type 0} (p : X → Bool) (xs : List X) → ((k : ℕ) (d : X) → k < length xs → p (get_or xs k d) ≡ false) → list_any p xs ≡ false
none_of p [] each = refl
none_of p (x ∷ xs) each =
    ap (λ b. b || list_any p xs) (each 0 x (omega arith))
    ∙ none_of p xs (λ k d inside. each (suc k) d (omega (arith, inside)))

-- how a key compares with the one that is sought
abbrev place : CellKey → CellKey → ℕ
place key other = ordering_index (key_cmp other key)

at_most_greater : (o : Ordering) → ordering_index o ≤ 2
at_most_greater Less = omega arith
at_most_greater Equal = omega arith
at_most_greater Greater = omega arith

rises_to : (key a b : CellKey) (o : Ordering) → key_cmp a b ≡ Less → key_cmp b key ≡ o → ordering_index (key_cmp a key) ≤ ordering_index o
rises_to key a b Less below is = subst (λ o. ordering_index o ≤ 0) (sym (keys_total.trans a b key below is)) (omega arith)
rises_to key a b Equal below is = subst (λ k. ordering_index (key_cmp a k) ≤ 1) (keys_exact b key is) (subst (λ o. ordering_index o ≤ 1) (sym below) (omega arith))
rises_to key a b Greater below is = at_most_greater (key_cmp a key)

module _ (rows : List Summary) (ascend : IsStrictlySortedBy key_cmp (map row_key rows)) (key : CellKey) where
  abbrev default : Summary
  default = record { square = key.square; level = key.level; extremes = None }

  below : (i j : ℕ) → i < j → j < length rows → key_cmp (row_key (get_or rows i default)) (row_key (get_or rows j default)) ≡ Less
  below i j before inside =
      let long : length (map row_key rows) ≡ length rows = length-map rows row_key in
      let first : get_or (map row_key rows) i key ≡ row_key (get_or rows i default) = get_or-map row_key rows i default key (omega (arith, before, inside)) in
      let next : get_or (map row_key rows) j key ≡ row_key (get_or rows j default) = get_or-map row_key rows j default key inside in
      ap (λ k. key_cmp k (row_key (get_or rows j default))) (sym first)
      ∙ ap (key_cmp (get_or (map row_key rows) i key)) (sym next)
      ∙ Less-from_sorted key_cmp (map row_key rows) i j key ascend before (omega (arith, long, inside))

  rises : (i j : ℕ) → (i ≡ j) ⊎ (i < j) → j < length rows → place key (row_key (get_or rows i default)) ≤ place key (row_key (get_or rows j default))
  rises i j (inl same) inside = subst (λ k. place key (row_key (get_or rows i default)) ≤ place key (row_key (get_or rows k default))) same (omega arith)
  rises i j (inr before) inside = rises_to key (row_key (get_or rows i default)) (row_key (get_or rows j default)) (key_cmp (row_key (get_or rows j default)) key) (below i j before inside) refl

  ordered : (i j : ℕ) → i ≤ j → (i ≡ j) ⊎ (i < j)
  ordered i j le = grind arith

  comparisons_rise : IsNonDecreasingBy (λ row. ordering_index (key_cmp (row_key row) key)) rows
  comparisons_rise = IsNonDecreasingBy-from_default (λ row. ordering_index (key_cmp (row_key row) key)) rows default (λ i j le inside. rises i j (ordered i j le) inside)

  differs : (other : CellKey) (o : Ordering) → key_cmp other key ≡ o → is_eq (ordering_reverse o) ≡ false → eq_by_cmp key_cmp key other ≡ false
  differs other o is untied = ap is_eq (keys_total.antisymm key other ∙ ap ordering_reverse is) ∙ untied

  split : (k at : ℕ) → (k < at) ⊎ (at ≤ k)
  split k at = grind arith

  -- the search ends at a row exactly where the key is one of the rows'
  pub found : (r : Result ℕ ℕ) → IsSearchInRange r (length rows) → IsBinarySearchResult (λ row. key_cmp (row_key row) key) rows r → is_ok r ≡ contains (shapes_of_rows rows) key
  found (Ok at) inside equal =
      let same : row_key (get_or rows at default) ≡ key = keys_exact _ key (equal default) in
      let here : get_or (map row_key rows) at key ≡ key = get_or-map row_key rows at default key inside ∙ same in
      let long : length (map row_key rows) ≡ length rows = length-map rows row_key in
      sym (contains-from_list keys_total (map row_key rows) key
      ∙ list_any_at (eq_by_cmp key_cmp key) (map row_key rows) at key (omega (arith, long, inside)) (ap (eq_by_cmp key_cmp key) here ∙ ap is_eq (tied_itself keys_total key)))
  found (Err at) inside parted =
      let long : length (map row_key rows) ≡ length rows = length-map rows row_key in
      let sides = parted comparisons_rise in
      sym (contains-from_list keys_total (map row_key rows) key
      ∙ none_of (eq_by_cmp key_cmp key) (map row_key rows) (λ k d below_end.
      let within : k < length rows = omega (arith, long, below_end) in
      ap (eq_by_cmp key_cmp key) (get_or-map row_key rows k default d within)
      ∙ elim (split k at) [
        | inl before ↦ differs (row_key (get_or rows k default)) Less (sides.0 k default (omega arith) before) refl
        | inr after ↦ differs (row_key (get_or rows k default)) Greater (sides.1 k default after within) refl
      ]))

any_row : (p : CellKey → Bool) (rows : List Summary) → list_any p (map row_key rows) ≡ list_any (λ row. p (row_key row)) rows
any_row p [] = refl
any_row p (row ∷ rows) = ap (λ b. p (row_key row) || b) (any_row p rows)

-- the keys of the rows, one by one
pub known_rows : (rows : List Summary) (key : CellKey) → contains (shapes_of_rows rows) key ≡ list_any (λ row. eq_by_cmp key_cmp key (row_key row)) rows
known_rows rows key = contains-from_list keys_total (map row_key rows) key ∙ any_row (eq_by_cmp key_cmp key) rows

-- rows that ascend one by one ascend
pub ascending : (rows : List Summary) → ((k : ℕ) (d : Summary) → k + 1 < length rows → key_cmp (row_key (get_or rows k d)) (row_key (get_or rows (k + 1) d)) ≡ Less) → IsStrictlySortedBy key_cmp (map row_key rows)
unfolding IsStrictlySortedBy
ascending [] each = tt
ascending (row ∷ rows) each = sorted_from_all_adjacent keys_total (map row_key (row ∷ rows)) (row_key row) (λ k inside.
    let long : length (map row_key (row ∷ rows)) ≡ length (row ∷ rows) = length-map (row ∷ rows) row_key in
    let within : k + 1 < length (row ∷ rows) = omega (arith, long, inside) in
    ap (λ next. key_cmp (get_or (map row_key (row ∷ rows)) k (row_key row)) next) (get_or-map row_key (row ∷ rows) (k + 1) row (row_key row) within)
    ∙ ap (λ first. key_cmp first (row_key (get_or (row ∷ rows) (k + 1) row))) (get_or-map row_key (row ∷ rows) k row (row_key row) (omega (arith, within)))
    ∙ each k row within)
