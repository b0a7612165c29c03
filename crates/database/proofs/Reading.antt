-- Files whose manifest is good and whose rows' cells are held read as one state, and as no other.
use Rattle.std.proofs.Common.{◌≡◌, ℕ, suc, ◌≤◌, Bool, true, false, is_some, cond, List, [], ◌∷◌, length, map, Option, Some, None, refl, sym, ap, subst, ◌∙◌, T}
use Rattle.std.specs.Prelude.{IsSomeAnd, slice_get, IfSome}
use Rattle.std.specs.List.{AllByRecursion}
use Rattle.std.specs.List.Sorted.{IsStrictlySortedBy}
use Rattle.std.specs.Ordering.{eq_by_cmp}
use Rattle.std.specs.declared.cmp.Ordering.TheVariants.{Less}
use Rattle.std.specs.FinMap.{get, keys, entries, entries_sorted, entries-from_sorted, get-from_sorted, get-entries, find, is_sorted, same_map}
use Rattle.std.specs.FinMap.Entries.{below_all}
use Rattle.common_laws.proofs.Booleans.{both_hold, left_holds, right_holds}
use Rattle.common_laws.proofs.Orders.{less_from_holds, holds_from_less}
use Rattle.terrain_base.specs.declared.cell_key.CellKey.{CellKey}
use Rattle.db_manifest.specs.Manifest.{ManifestState}
use Rattle.terrain_base.specs.declared.name.Key.{Key}
use Rattle.terrain_base.specs.declared.name.Key.TheVariants.{Manifest}
use Rattle.terrain_base.specs.declared.params.Params.{Params}
use Rattle.terrain_base.specs.CellKey.{key_cmp}
use Rattle.terrain_base.specs.Step.{Files}
use Rattle.cell_mosaic.specs.Cells.{IsSoundCell}
use Rattle.cell_mosaic.specs.Summaries.{summary_of, summaries_of}
use Rattle.db_manifest.specs.Manifest.{manifest_text, IsManifest, fits_rows}
use Rattle.db_manifest.proofs.Texts.{differ}
use Rattle.database.specs.State.{State, ReadsAs, kept_under}
use Rattle.database.specs.Opening.{IsKept}
use Rattle.database.specs.Reading.{or_nothing, kept_bytes, row_entries, cells_read, summaries_read, state_read}
use Rattle.database.proofs.Given.{keys_total, keys_exact}
use Rattle.database.proofs.Tests.{key_same}

-- ---- rows that ascend, as entries and as keys

below_rows : (f : CellKey → List ℕ) (x : CellKey) (ks : List CellKey) → AllByRecursion (λ y. key_cmp x y ≡ Less) ks → T (below_all key_cmp x (map (λ k. (k, f k)) ks))
below_rows f x [] h = tt
below_rows f x (k ∷ ks) h = both_hold _ _ (holds_from_less (key_cmp x k) h.0) (below_rows f x ks h.1)

pub sorted_entries : (f : CellKey → List ℕ) (ks : List CellKey) → IsStrictlySortedBy key_cmp ks → T (is_sorted key_cmp (map (λ k. (k, f k)) ks))
unfolding IsStrictlySortedBy
sorted_entries f [] h = tt
sorted_entries f (k ∷ ks) h = both_hold _ _ (below_rows f k ks h.0) (sorted_entries f ks h.1)

below_keys : (x : CellKey) (es : List (CellKey × List ℕ)) → T (below_all key_cmp x es) → AllByRecursion (λ y. key_cmp x y ≡ Less) (map (λ e. e.0) es)
below_keys x [] h = tt
below_keys x (e ∷ es) h = (less_from_holds (key_cmp x e.0) (left_holds _ _ h), below_keys x es (right_holds _ _ h))

pub sorted_keys : (es : List (CellKey × List ℕ)) → T (is_sorted key_cmp es) → IsStrictlySortedBy key_cmp (map (λ e. e.0) es)
unfolding IsStrictlySortedBy
sorted_keys [] h = tt
sorted_keys (e ∷ es) h = (below_keys e.0 es (left_holds _ _ h), sorted_keys es (right_holds _ _ h))

-- ---- the state that rows tell

pub keys_back : (f : CellKey → List ℕ) (ks : List CellKey) → map (λ (e : CellKey × List ℕ). e.0) (map (λ k. (k, f k)) ks) ≡ ks
keys_back f [] = refl
keys_back f (k ∷ ks) = ap (λ js. k ∷ js) (keys_back f ks)

pub told_back : (f : CellKey → List ℕ) (ks : List CellKey) → map (λ (e : CellKey × List ℕ). summary_of e.0 e.1) (map (λ k. (k, f k)) ks) ≡ map (λ k. summary_of k (f k)) ks
told_back f [] = refl
told_back f (k ∷ ks) = ap (λ js. summary_of k (f k) ∷ js) (told_back f ks)

read_entries : (files : Files) (mark : ManifestState) (rows : List CellKey) → IsStrictlySortedBy key_cmp rows → entries (cells_read files mark rows) ≡ row_entries files mark rows
read_entries files mark rows asc = entries-from_sorted key_cmp (row_entries files mark rows) (sorted_entries (kept_bytes files mark) rows asc)

pub read_keys : (files : Files) (mark : ManifestState) (rows : List CellKey) → IsStrictlySortedBy key_cmp rows → keys (cells_read files mark rows) ≡ rows
read_keys files mark rows asc = ap (map (λ (e : CellKey × List ℕ). e.0)) (read_entries files mark rows asc) ∙ keys_back (kept_bytes files mark) rows

pub read_summaries : (files : Files) (mark : ManifestState) (rows : List CellKey) → IsStrictlySortedBy key_cmp rows → summaries_of (cells_read files mark rows) ≡ summaries_read files mark rows
read_summaries files mark rows asc = ap (map (λ (e : CellKey × List ℕ). summary_of e.0 e.1)) (read_entries files mark rows asc) ∙ told_back (kept_bytes files mark) rows

pub kept_is : (o : Option (List ℕ)) (k : CellKey) (bytes : List ℕ) → IsSomeAnd o (IsSoundCell k) → Some (or_nothing o) ≡ Some bytes → (o ≡ Some bytes) × IsSoundCell k bytes
kept_is None k bytes is e = absurd is
kept_is (Some b) k bytes is e = let same : b ≡ bytes = cc in (e, subst (λ x. IsSoundCell k x) same is)

find_head : (files : Files) (mark : ManifestState) (k q : CellKey) (rows : List CellKey) (bytes : List ℕ) (b : Bool) → (b ≡ true → q ≡ k) → IsKept files mark k
    → (find key_cmp q (row_entries files mark rows) ≡ Some bytes → (get files (kept_under mark q) ≡ Some bytes) × IsSoundCell q bytes)
    → cond b (Some (kept_bytes files mark k)) (find key_cmp q (row_entries files mark rows)) ≡ Some bytes → (get files (kept_under mark q) ≡ Some bytes) × IsSoundCell q bytes
find_head files mark k q rows bytes true same kept rest e =
    subst (λ j. (get files (kept_under mark j) ≡ Some bytes) × IsSoundCell j bytes) (sym (same refl)) (kept_is (get files (kept_under mark k)) k bytes kept e)
find_head files mark k q rows bytes false same kept rest e = rest e

find_row : (files : Files) (mark : ManifestState) (rows : List CellKey) (q : CellKey) (bytes : List ℕ) → AllByRecursion (IsKept files mark) rows → find key_cmp q (row_entries files mark rows) ≡ Some bytes
    → (get files (kept_under mark q) ≡ Some bytes) × IsSoundCell q bytes
find_row files mark [] q bytes all e = absurd (cc)
find_row files mark (k ∷ rows) q bytes all e = find_head files mark k q rows bytes (eq_by_cmp key_cmp q k) (key_same q k) all.0 (find_row files mark rows q bytes all.1) e

read_at : (files : Files) (mark : ManifestState) (rows : List CellKey) → IsStrictlySortedBy key_cmp rows → AllByRecursion (IsKept files mark) rows → (q : CellKey) (bytes : List ℕ) → get (cells_read files mark rows) q ≡ Some bytes
    → (get files (kept_under mark q) ≡ Some bytes) × IsSoundCell q bytes
read_at files mark rows asc all q bytes at =
    find_row files mark rows q bytes all (sym (get-from_sorted key_cmp (row_entries files mark rows) q (sorted_entries (kept_bytes files mark) rows asc)) ∙ at)

pub reads_as : (files : Files) (params : Params) (mark : ManifestState) (rows : List CellKey) → get files Manifest ≡ Some (manifest_text params mark rows) → IsManifest params mark rows
    → AllByRecursion (IsKept files mark) rows → ReadsAs files (state_read params mark rows files) mark
reads_as files params mark rows text good all =
    let same : keys (cells_read files mark rows) ≡ rows = read_keys files mark rows good.ascend in
    let few : length rows ≤ 4096 = good.few in
    record {
      manifest = text ∙ ap (λ ks. Some (manifest_text params mark ks)) (sym same);
      fit = ap (fits_rows mark) same ∙ good.fits;
      state = record {
        few = subst (λ ks. length ks ≤ 4096) (sym same) few;
        sound = λ q bytes at. (read_at files mark rows good.ascend all q bytes at).1;
      };
      cells = λ q bytes at. (read_at files mark rows good.ascend all q bytes at).0;
    }

-- ---- and no other

pub is_manifest : {files : Files} {s : State} {m : ManifestState} → ReadsAs files s m → IsManifest s.params m (keys s.cells)
is_manifest {files = files} {s = s} {m = m} r = record {
  ascend = sorted_keys (entries s.cells) (entries_sorted s.cells);
  few = r.state.few;
  fits = r.fit;
}

find_step : (f : CellKey → List ℕ) (e : CellKey × List ℕ) (es : List (CellKey × List ℕ)) (q : CellKey) (b : Bool) → (b ≡ true → q ≡ e.0)
    → find key_cmp q (map (λ k. (k, f k)) (map (λ e. e.0) es)) ≡ cond (is_some (find key_cmp q es)) (Some (f q)) None
    → cond b (Some (f e.0)) (find key_cmp q (map (λ k. (k, f k)) (map (λ e. e.0) es))) ≡ cond (is_some (cond b (Some e.1) (find key_cmp q es))) (Some (f q)) None
find_step f e es q true same ih = ap (λ k. Some (f k)) (sym (same refl))
find_step f e es q false same ih = ih

-- among the keys the entry's bytes are those that are kept
find_among : (f : CellKey → List ℕ) (es : List (CellKey × List ℕ)) (q : CellKey) → find key_cmp q (map (λ k. (k, f k)) (map (λ e. e.0) es)) ≡ cond (is_some (find key_cmp q es)) (Some (f q)) None
find_among f [] q = refl
find_among f (e ∷ es) q = find_step f e es q (eq_by_cmp key_cmp q e.0) (key_same q e.0) (find_among f es q)

where_kept : (files : Files) (m : ManifestState) (q : CellKey) (o : Option (List ℕ)) → ((bytes : List ℕ) → o ≡ Some bytes → get files (kept_under m q) ≡ Some bytes) → o ≡ cond (is_some o) (Some (kept_bytes files m q)) None
where_kept files m q None at = refl
where_kept files m q (Some bytes) at = sym (ap (λ o. Some (or_nothing o)) (at bytes refl))

pub cells_are : {files : Files} {s : State} {m : ManifestState} → ReadsAs files s m → s.cells ≡ cells_read files m (keys s.cells)
cells_are {files = files} {s = s} {m = m} r = same_map keys_total keys_exact s.cells (cells_read files m (keys s.cells)) (λ q.
    where_kept files m q (get s.cells q) (λ bytes at. r.cells q bytes at)
    ∙ ap (λ o. cond (is_some o) (Some (kept_bytes files m q)) None) (get-entries s.cells q)
    ∙ sym (find_among (kept_bytes files m) (entries s.cells) q)
    ∙ sym (get-from_sorted key_cmp (row_entries files m (keys s.cells)) q (sorted_entries (kept_bytes files m) (keys s.cells) (sorted_keys (entries s.cells) (entries_sorted s.cells)))))

pub state_is : {files : Files} {s : State} {m : ManifestState} (params : Params) (mark : ManifestState) (rows : List CellKey) → ReadsAs files s m → s.params ≡ params → m ≡ mark → keys s.cells ≡ rows → s ≡ state_read params mark rows files
state_is {files = files} {s = s} {m = m} params mark rows r p e k =
    let cells : s.cells ≡ cells_read files mark rows = cells_are r ∙ (λ i. cells_read files (e i) (k i)) in
    λ i. record { params = p i; cells = cells i }

-- two readings are the same
pub one_state : {files : Files} {s t : State} {m n : ManifestState} → ReadsAs files s m → ReadsAs files t n → (s ≡ t) × (m ≡ n)
one_state {files = files} {s = s} {t = t} {m = m} {n = n} a b =
    let texts : Some (manifest_text s.params m (keys s.cells)) ≡ Some (manifest_text t.params n (keys t.cells)) = sym a.manifest ∙ b.manifest in
    let text : manifest_text s.params m (keys s.cells) ≡ manifest_text t.params n (keys t.cells) = cc in
    let same = differ s.params t.params m n (keys s.cells) (keys t.cells) (is_manifest a) (is_manifest b) text in
    (state_is t.params n (keys t.cells) a same.0 same.1.0 same.1.1 ∙ sym (state_is t.params n (keys t.cells) b refl refl refl), same.1.0)

-- ---- each row, by its place

pub all_rows : (P : CellKey → Type 0) (rows : List CellKey) → ((n : ℕ) (key : CellKey) → slice_get rows n ≡ Some key → P key) → AllByRecursion P rows
all_rows P [] each = tt
all_rows P (k ∷ rows) each = (each 0 k refl, all_rows P rows (λ n key at. each (suc n) key at))

-- what a get found, where the store tells its files
pub found_is : (held : Option Files) (found : Option (List ℕ)) (name : Key) (files : Files) → held ≡ Some files → IfSome held (λ fs. found ≡ get fs name) → found ≡ get files name
found_is held found name files is said = subst (λ o. IfSome o (λ fs. found ≡ get fs name)) is said
