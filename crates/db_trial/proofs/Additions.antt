-- The entries of a map, added one after the other to a map of none: none is refused, and all of them make the map again.
use Rattle.std.proofs.Common.{◌≡◌, ℕ, ◌+◌, ◌≤◌, ◌<◌, Bool, true, false, is_some, nat_le, cond, List, [], ◌∷◌, ◌++◌, length, map, take, drop, get_or, Option, Some, None, refl, sym, ap, subst, ◌∙◌, arith, T, append-nil}
use Rattle.std.specs.Prelude.{if◌then◌else◌}
use Rattle.std.specs.declared.cmp.Ordering.{Ordering}
use Rattle.std.specs.declared.cmp.Ordering.TheVariants.{Less, Greater}
use Rattle.std.specs.Cmp.{IsTotalOrder, tied_itself}
use Rattle.std.specs.Ordering.{is_eq, ordering_reverse}
use Rattle.std.specs.FinMap.{get, keys, entries, entries_sorted, entries-insert, get-entries, same_entries_map, empty, len-entries, len-empty, find, put, is_sorted}
use Rattle.std.specs.FinMap.Entries.{below_all, by_order}
use Rattle.std.proofs.lemmas.List.{length-map, take_more, take-append-drop, nil_from_length}
use Rattle.std.proofs.lemmas.Bool.Decides.{nat_tests}
use Rattle.common_laws.proofs.Booleans.{left_holds, right_holds}
use Rattle.common_laws.proofs.Orders.{less_from_holds}
use Rattle.terrain_base.specs.declared.cell_key.CellKey.{CellKey}
use Rattle.terrain_base.specs.CellKey.{key_cmp, keys_total}
use Rattle.database.specs.declared.answer.EngineAnswer.TheVariants.{CellPresent, DatabaseFull}
use Rattle.database.specs.Commands.{Add, PutCell, after, has_key, next, refusal_of}
use Rattle.database.specs.State.{State, IsState}
use Rattle.db_engine.specs.Holding.{no_cells}
use Rattle.db_trial.specs.Sequence.{adding, adds, after_all}

-- ---- entries in their order

pub moved : {A : Type 0} (xs : List A) (x : A) (ys : List A) → (xs ++ x ∷ []) ++ ys ≡ xs ++ x ∷ ys
moved [] x ys = refl
moved (y ∷ xs) x ys = ap (λ list. y ∷ list) (moved xs x ys)

pub take_whole : {A : Type 0} (xs : List A) → take (length xs) xs ≡ xs
take_whole [] = refl
take_whole (x ∷ xs) = ap (λ list. x ∷ list) (take_whole xs)

module _ {K X : Type 0} {R : K → K → Ordering} (o : IsTotalOrder R) where
  less_at : (x : K) (front es : List (K × X)) (e : K × X) → T (below_all R x (front ++ e ∷ es)) → R x e.0 ≡ Less
  less_at x [] es e h = less_from_holds _ (left_holds _ _ h)
  less_at x (f ∷ front) es e h = less_at x front es e (right_holds _ _ h)

  -- an entry comes behind those before it
  behind : (f e : K × X) (front es : List (K × X)) → T (is_sorted R (f ∷ (front ++ e ∷ es))) → R e.0 f.0 ≡ Greater
  behind f e front es h = o.antisymm e.0 f.0 ∙ ap ordering_reverse (less_at f.0 front es e (left_holds _ _ h))

  pub find_in : (front es : List (K × X)) (e : K × X) → T (is_sorted R (front ++ e ∷ es)) → find R e.0 (front ++ e ∷ es) ≡ Some e.1
  find_in [] es e h = ap (λ r. cond (is_eq r) (Some e.1) (find R e.0 es)) (tied_itself o e.0)
  find_in (f ∷ front) es e h =
      ap (λ r. cond (is_eq r) (Some f.1) (find R e.0 (front ++ e ∷ es))) (behind f e front es h)
      ∙ find_in front es e (right_holds _ _ h)

  find_before : (front es : List (K × X)) (e : K × X) → T (is_sorted R (front ++ e ∷ es)) → find R e.0 front ≡ None
  find_before [] es e h = refl
  find_before (f ∷ front) es e h =
      ap (λ r. cond (is_eq r) (Some f.1) (find R e.0 front)) (behind f e front es h)
      ∙ find_before front es e (right_holds _ _ h)

  put_behind : (front es : List (K × X)) (e : K × X) → T (is_sorted R (front ++ e ∷ es)) → put R e.0 e.1 front ≡ front ++ e ∷ []
  put_behind [] es e h = refl
  put_behind (f ∷ front) es e h =
      ap (λ r. by_order r ((e.0, e.1) ∷ f ∷ front) ((f.0, e.1) ∷ front) (f ∷ put R e.0 e.1 front)) (behind f e front es h)
      ∙ ap (λ list. f ∷ list) (put_behind front es e (right_holds _ _ h))

-- ---- adding them

-- a list of entries, from which a state has those of a front
pub record HasFront (front rest : List (CellKey × List ℕ)) (t : State) : Type 0 where
  pub are : entries t.cells ≡ front
  pub sorted : T (is_sorted key_cmp (front ++ rest))
  pub few : length (front ++ rest) ≤ 4096

shorter : {A : Type 0} (xs : List A) (y : A) (ys : List A) → length xs < length (xs ++ y ∷ ys)
shorter [] y ys = omega arith
shorter (x ∷ xs) y ys = let rest = shorter xs y ys in omega arith

refusal_by : (has full : Bool) (k : CellKey) → has ≡ false → full ≡ false
    → ◌≡◌ {A = Option Rattle.database.specs.declared.answer.EngineAnswer.EngineAnswer}
    (if has then Some (CellPresent k.square k.level) else (if full then Some DatabaseFull else None)) None
refusal_by has full k p q = λ i. if p i then Some (CellPresent k.square k.level) else (if q i then Some DatabaseFull else None)

not_full : (n : ℕ) → n < 4096 → nat_le 4096 n ≡ false
not_full n less = grind (arith, nat_tests)

pub free : (front rest : List (CellKey × List ℕ)) (e : CellKey × List ℕ) (t : State) → HasFront front (e ∷ rest) t → refusal_of (adds e) t ≡ None
free front rest e t h =
    let has : has_key t e.0 ≡ false =
    ap is_some (get-entries t.cells e.0 ∙ ap (find key_cmp e.0) h.are ∙ find_before keys_total front rest e h.sorted) in
    let count : length (keys t.cells) ≡ length front = length-map (entries t.cells) _ ∙ ap length h.are in
    let less = shorter front e rest in
    let few = h.few in
    let below : length (keys t.cells) < 4096 = omega arith in
    let full = not_full (length (keys t.cells)) below in
    refusal_by (has_key t e.0) (nat_le 4096 (length (keys t.cells))) e.0 has full

pub next_is : (front rest : List (CellKey × List ℕ)) (e : CellKey × List ℕ) (t : State) → HasFront front (e ∷ rest) t → next (adds e) t ≡ after (PutCell e.0 e.1) t
next_is front rest e t h = ap (λ refusal. if is_some refusal then t else after (PutCell e.0 e.1) t) (free front rest e t h)

grown : (front rest : List (CellKey × List ℕ)) (e : CellKey × List ℕ) (t : State) → HasFront front (e ∷ rest) t → HasFront (front ++ e ∷ []) rest (next (adds e) t)
grown front rest e t h = record {
  are =
      ap (λ (s : State). entries s.cells) (next_is front rest e t h) ∙ entries-insert keys_total t.cells e.0 e.1
      ∙ ap (put key_cmp e.0 e.1) h.are ∙ put_behind keys_total front rest e h.sorted;
  sorted = subst (λ list. T (is_sorted key_cmp list)) (sym (moved front e rest)) h.sorted;
  few = subst (λ list. length list ≤ 4096) (sym (moved front e rest)) h.few;
}

pub all_grown : (front es rest : List (CellKey × List ℕ)) (t : State) → HasFront front (es ++ rest) t → HasFront (front ++ es) rest (after_all (map adds es) t)
all_grown front [] rest t h = record {
  are = h.are ∙ sym (append-nil front);
  sorted = subst (λ list. T (is_sorted key_cmp (list ++ rest))) (sym (append-nil front)) h.sorted;
  few = subst (λ list. length (list ++ rest) ≤ 4096) (sym (append-nil front)) h.few;
}
all_grown front (e ∷ es) rest t h =
    subst (λ list. HasFront list rest (after_all (map adds es) (next (adds e) t))) (moved front e es)
    (all_grown (front ++ e ∷ []) es rest (next (adds e) t) (grown front (es ++ rest) e t h))

-- ---- the params stay

same_params : (c : Rattle.database.specs.Commands.Command) (t : State) (refused : Bool)
    → (if refused then t else after (Rattle.database.specs.Commands.edit_of c) t).params ≡ t.params
same_params c t true = refl
same_params (Rattle.database.specs.Commands.Add k bytes) t false = refl
same_params (Rattle.database.specs.Commands.Replace k bytes) t false = refl
same_params (Rattle.database.specs.Commands.Remove k) t false = refl

pub params_stay : (commands : List Rattle.database.specs.Commands.Command) (t : State) → (after_all commands t).params ≡ t.params
params_stay [] t = refl
params_stay (c ∷ commands) t = params_stay commands (next c t) ∙ same_params c t (is_some (refusal_of c t))

-- ---- from none to all

pub no_entries : {K : Type 0} (R : K → K → Ordering) → entries (empty {X = List ℕ} {R = R}) ≡ []
no_entries R = nil_from_length _ (sym (len-entries (empty {X = List ℕ} {R = R})) ∙ len-empty R (List ℕ))

pub at_first : (s : State) → IsState s → HasFront [] (entries s.cells) (no_cells s.params)
at_first s is = record {
  are = no_entries key_cmp;
  sorted = entries_sorted s.cells;
  few =
      let few : length (map (λ (e : CellKey × List ℕ). e.0) (entries s.cells)) ≤ 4096 = is.few in
      let count = length-map (entries s.cells) (λ (e : CellKey × List ℕ). e.0) in
      omega arith;
}

split_at : {A : Type 0} (xs : List A) (i : ℕ) (d : A) → i < length xs → xs ≡ take i xs ++ get_or xs i d ∷ drop (i + 1) xs
split_at xs i d less =
    sym (take-append-drop (i + 1) xs) ∙ ap (λ list. list ++ drop (i + 1) xs) (take_more xs i d less)
    ∙ moved (take i xs) (get_or xs i d) (drop (i + 1) xs)

-- and after so many of the entries the next one is behind them
pub at_index : (s : State) (i : ℕ) (d : CellKey × List ℕ) → IsState s → i < length (entries s.cells)
    → HasFront (take i (entries s.cells)) (get_or (entries s.cells) i d ∷ drop (i + 1) (entries s.cells)) (after_all (map adds (take i (entries s.cells))) (no_cells s.params))
at_index s i d is less =
    all_grown [] (take i (entries s.cells)) (get_or (entries s.cells) i d ∷ drop (i + 1) (entries s.cells)) (no_cells s.params)
    (subst (λ list. HasFront [] list (no_cells s.params)) (split_at (entries s.cells) i d less) (at_first s is))

-- an entry's value is got by its key
pub got : (s : State) (i : ℕ) (d : CellKey × List ℕ) → i < length (entries s.cells)
    → get s.cells (get_or (entries s.cells) i d).0 ≡ Some (get_or (entries s.cells) i d).1
got s i d less =
    let es = entries s.cells in
    let e = get_or es i d in
    let whole = split_at es i d less in
    get-entries s.cells e.0 ∙ ap (find key_cmp e.0) whole
    ∙ find_in keys_total (take i es) (drop (i + 1) es) e (subst (λ list. T (is_sorted key_cmp list)) whole (entries_sorted s.cells))

-- all of them make the state again
pub added_again : (s : State) → IsState s → after_all (adding s) (no_cells s.params) ≡ s
added_again s is =
    let t = after_all (adding s) (no_cells s.params) in
    let all = all_grown [] (entries s.cells) [] (no_cells s.params)
    (subst (λ list. HasFront [] list (no_cells s.params)) (sym (append-nil (entries s.cells))) (at_first s is)) in
    let cells : t.cells ≡ s.cells = same_entries_map t.cells s.cells all.are in
    let params : t.params ≡ s.params = params_stay (adding s) (no_cells s.params) in
    λ i. record { params = params i; cells = cells i }
