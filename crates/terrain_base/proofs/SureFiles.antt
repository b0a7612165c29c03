-- The map that a store in memory holds, by its entries.
use Rattle.std.proofs.Common.{◌≡◌, ℕ, List, [], ◌∷◌, Option, Some, None, Vec, Bool, true, false, cond, refl, sym, ap, ◌∙◌, map, Less, length, arith}
use Rattle.std.specs.declared.alloc.Global.{Global}
use Rattle.std.specs.FinMap.{empty, insert, remove, get, get-empty, get-insert, get-remove, same_map, entries, entries-insert, keys, put, len-entries, len-empty}
use Rattle.std.specs.Ordering.{eq_by_cmp}
use Rattle.std.specs.Cmp.{eq_by_cmp_equiv}
use Rattle.std.specs.Map.{lookup, keys_of}
use Rattle.std.specs.List.Sorted.{IsStrictlySortedBy}
use Rattle.std.specs.BTreeMap.{BTreeMap, Updates, is_at}
use Rattle.terrain_base.specs.Name.{by_text}
use Rattle.terrain_base.proofs.NameOrder.{by_text_total, by_text_exact}
use Rattle.terrain_base.specs.declared.name.Key.{Key}
use Rattle.terrain_base.specs.Step.{items_of}
use Rattle.terrain_base.specs.SureStore.{files_of}

items_cond : (b : Bool) (x y : Option (Vec ℕ Global)) → items_of (cond b x y) ≡ cond b (items_of x)
    (items_of y)
items_cond true x y = refl
items_cond false x y = refl

pub get_files : (es : List (Key × Vec ℕ Global)) (q : Key) → get (files_of es) q ≡ items_of
    (lookup (is_at (by_text q)) es)
get_files [] q = get-empty by_text q
get_files (e ∷ es) q =
    get-insert by_text_total (files_of es) e.0 e.1.items q
    ∙ ap (cond (eq_by_cmp by_text q e.0) (Some e.1.items)) (get_files es q)
    ∙ sym (items_cond (is_at (by_text q) e.0) (Some e.1) (lookup (is_at (by_text q)) es))

turned : (k q : Key) → is_at (by_text k) q ≡ eq_by_cmp by_text q k
turned k q = (eq_by_cmp_equiv by_text_total).symm k q

pub files-insert : (m n : BTreeMap Key (Vec ℕ Global)) (k : Key) (v : Vec ℕ Global) → Updates by_text m n k
    (Some v) → files_of n.entries ≡ insert (files_of m.entries) k v.items
files-insert m n k v u = same_map by_text_total by_text_exact _ _ (λ q.
    get_files n.entries q
    ∙ ap items_of (u.0 q)
    ∙ items_cond (is_at (by_text k) q) (Some v) _
    ∙ ap (λ b. cond b (Some v.items) (items_of (lookup (is_at (by_text q)) m.entries))) (turned k q)
    ∙ ap (cond (eq_by_cmp by_text q k) (Some v.items)) (sym (get_files m.entries q))
    ∙ sym (get-insert by_text_total (files_of m.entries) k v.items q))

pub files-remove : (m n : BTreeMap Key (Vec ℕ Global)) (k : Key) → Updates by_text m n k None → files_of n.entries ≡ remove
    (files_of m.entries) k
files-remove m n k u = same_map by_text_total by_text_exact _ _ (λ q.
    get_files n.entries q
    ∙ ap items_of (u.0 q)
    ∙ items_cond (is_at (by_text k) q) None _
    ∙ ap (λ b. cond b None (items_of (lookup (is_at (by_text q)) m.entries))) (turned k q)
    ∙ ap (cond (eq_by_cmp by_text q k) None) (sym (get_files m.entries q))
    ∙ sym (get-remove by_text_total (files_of m.entries) k q))

no_length : (es : List (Key × List ℕ)) → length es ≡ 0 → es ≡ []
no_length [] is = refl
no_length (e ∷ es) is = absurd (omega arith)

-- no entries in the empty map
keys_empty : keys (empty {X = List ℕ} {R = by_text}) ≡ []
keys_empty = ap (map (λ e. e.0)) (no_length (entries (empty {X = List ℕ} {R = by_text})) (sym (len-entries (empty {X = List ℕ} {R = by_text})) ∙ len-empty by_text (List ℕ)))

-- the keys of the map of entries in order are those of the entries
keys_put : (k : Key) (v : List ℕ) (es : List (Key × List ℕ)) (ks : List Key) → map (λ e. e.0) es ≡ ks
    → IsStrictlySortedBy by_text (k ∷ ks) → map (λ e. e.0) (put by_text k v es) ≡ k ∷ ks
unfolding IsStrictlySortedBy
keys_put k v [] ks is sorted = ap (λ ks. k ∷ ks) is
keys_put k v (e ∷ es) [] is sorted = absurd (cc)
keys_put k v (e ∷ es) (x ∷ xs) is sorted =
    let here : e.0 ≡ x = cc in
    let less : by_text k e.0 ≡ Less = ap (by_text k) here ∙ sorted.0.0 in
    rw less (ap (λ ks. k ∷ ks) is)

pub keys_files : (es : List (Key × Vec ℕ Global)) → IsStrictlySortedBy by_text (keys_of es) → keys
    (files_of es) ≡ keys_of es
unfolding IsStrictlySortedBy
keys_files [] sorted = keys_empty
keys_files (e ∷ es) sorted =
    ap (map (λ e. e.0)) (entries-insert by_text_total (files_of es) e.0 e.1.items)
    ∙ keys_put e.0 e.1.items (entries (files_of es)) (keys_of es) (keys_files es sorted.1) sorted
