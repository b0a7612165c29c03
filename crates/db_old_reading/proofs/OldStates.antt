-- Files read as one state by an old version, and as no other.
use Rattle.std.proofs.Common.{◌≡◌, ℕ, true, is_some, List, [], ◌∷◌, map, Option, Some, None, refl, sym, ap, subst, ◌∙◌}
use Rattle.std.specs.Prelude.{IsSomeAnd}
use Rattle.std.specs.FinMap.{get, keys, contains_key-keys, same_map}
use Rattle.std.specs.List.{AllByRecursion, list_any}
use Rattle.std.specs.Ordering.{eq_by_cmp}
use Rattle.terrain_base.specs.declared.cell_key.CellKey.{CellKey}
use Rattle.terrain_base.specs.declared.name.Key.TheVariants.{Manifest}
use Rattle.terrain_base.specs.CellKey.{key_at, key_cmp}
use Rattle.terrain_base.specs.Step.{Files}
use Rattle.terrain_base.proofs.KeyOrder.{same_key}
use Rattle.cell_mosaic.specs.Cells.{Cells, IsSoundCell}
use Rattle.manifest_lines.specs.declared.version.Version.{Version}
use Rattle.manifest_lines.specs.declared.version.Version.TheVariants.{One, Two, Three}
use Rattle.manifest_lines.specs.Version.{version_number, version_in}
use Rattle.manifest_lines.proofs.Readers.{one_text}
use Rattle.manifest_lines.proofs.Versions.{text_version}
use Rattle.old_manifest.specs.declared.row.OldRow.{OldRow}
use Rattle.old_manifest.specs.Manifest.{Contents, IsManifest, manifest_text, staged_of}
use Rattle.old_manifest.specs.OldRows.{old_sound}
use Rattle.old_manifest.specs.Rows.{old_grammar}
use Rattle.database.specs.State.{State}
use Rattle.database.proofs.Given.{keys_total, keys_exact}
use Rattle.database.proofs.Reading.{all_rows}
use Rattle.database.proofs.Openings.{any_at}
use Rattle.db_old_reading.specs.Kept.{row_of, key_of, kept_under}
use Rattle.db_old_reading.specs.OldOpening.{IsKept}
use Rattle.db_old_reading.specs.OldReads.{OldMark, OldReads, contents_of}

-- ---- manifests

pub numbers_apart : (v w : Version) → Some (version_number v) ≡ Some (version_number w) → v ≡ w
numbers_apart One One e = refl
numbers_apart One Two e = absurd (cc)
numbers_apart One Three e = absurd (cc)
numbers_apart Two One e = absurd (cc)
numbers_apart Two Two e = refl
numbers_apart Two Three e = absurd (cc)
numbers_apart Three One e = absurd (cc)
numbers_apart Three Two e = absurd (cc)
numbers_apart Three Three e = refl

-- the files have a good old manifest
pub record HasManifest (files : Files) (v : Version) (m : Contents) : Type 0 where
  pub manifest : get files Manifest ≡ Some (manifest_text v m)
  pub good : IsManifest v m

pub of_state : {files : Files} {v : Version} {s : State} {mark : OldMark} → OldReads files v s mark → HasManifest files v (contents_of v s mark)
of_state r = record { manifest = r.manifest; good = r.good }

-- and no other
pub one_manifest : {files : Files} {v w : Version} {a b : Contents} → HasManifest files v a → HasManifest files w b → (v ≡ w) × (a ≡ b)
one_manifest {files = files} {v = v} {w = w} {a = a} {b = b} h k =
    let texts : Some (manifest_text v a) ≡ Some (manifest_text w b) = sym h.manifest ∙ k.manifest in
    let text : manifest_text v a ≡ manifest_text w b = cc in
    let versions : v ≡ w = numbers_apart v w (sym (text_version old_grammar v a) ∙ ap version_in text ∙ text_version old_grammar w b) in
    let other : IsManifest v b = subst (λ x. IsManifest x b) (sym versions) k.good in
    (versions, one_text old_grammar old_sound v a b h.good.lines other.lines (text ∙ ap (λ x. manifest_text x b) (sym versions)))

-- ---- cells that are held

-- the cell of the key is held where its row's is kept
abbrev pub IsHeld : Files → Option OldRow → Version → CellKey → Type 0
IsHeld files staged v key = IsSomeAnd (get files (kept_under staged (row_of v key))) (IsSoundCell key)

held_of : (own held : Option (List ℕ)) (key : CellKey) → is_some own ≡ true → ((bytes : List ℕ) → own ≡ Some bytes → (held ≡ Some bytes) × IsSoundCell key bytes) → IsSomeAnd held (IsSoundCell key)
held_of None held key some at = absurd (cc)
held_of (Some bytes) held key some at = let is = at bytes refl in subst (λ x. IsSomeAnd x (IsSoundCell key)) (sym is.0) is.1

all_held : {files : Files} {v : Version} {s : State} {mark : OldMark} → OldReads files v s mark → AllByRecursion (IsHeld files (staged_of mark) v) (keys s.cells)
all_held {files = files} {v = v} {s = s} {mark = mark} r = all_rows (IsHeld files (staged_of mark) v) (keys s.cells) (λ n key at.
    held_of (get s.cells key) (get files (kept_under (staged_of mark) (row_of v key))) key (contains_key-keys s.cells key ∙ any_at (keys s.cells) n key at) (λ bytes is. (r.cells key bytes is, r.state.sound key bytes is)))

-- the row of a sound cell's key tells the key again
key_back : (v : Version) (key : CellKey) (bytes : List ℕ) → IsSoundCell key bytes → key_of (row_of v key) bytes ≡ key
key_back One key bytes sound = ap (key_at key.square) sound.cell.level
key_back Two key bytes sound = refl
key_back Three key bytes sound = refl

pub kept_of : (v : Version) (key : CellKey) (held : Option (List ℕ)) → IsSomeAnd held (IsSoundCell key) → IsSomeAnd held (λ bytes. IsSoundCell (key_of (row_of v key) bytes) bytes)
kept_of v key None is = is
kept_of v key (Some bytes) is = subst (λ k. IsSoundCell k bytes) (sym (key_back v key bytes is)) is

rows_held : (files : Files) (staged : Option OldRow) (v : Version) (ks : List CellKey) → AllByRecursion (IsHeld files staged v) ks → AllByRecursion (IsKept files staged) (map (row_of v) ks)
rows_held files staged v [] all = tt
rows_held files staged v (k ∷ ks) all = (kept_of v k (get files (kept_under staged (row_of v k))) all.0, rows_held files staged v ks all.1)

-- the rows of a state are kept
pub rows_kept : {files : Files} {v : Version} {s : State} {mark : OldMark} → OldReads files v s mark → AllByRecursion (IsKept files (staged_of mark)) (map (row_of v) (keys s.cells))
rows_kept {files = files} {v = v} {s = s} {mark = mark} r = rows_held files (staged_of mark) v (keys s.cells) (all_held r)

-- ---- one state

one_key : (k j : CellKey) (held : Option (List ℕ)) → IsSomeAnd held (IsSoundCell k) → IsSomeAnd held (IsSoundCell j) → k ≡ j
one_key k j None a b = absurd a
one_key k j (Some bytes) a b = same_key k j (sym a.cell.square ∙ b.cell.square) (sym a.cell.level ∙ b.cell.level)

same_keys : (files : Files) (staged : Option OldRow) (v : Version) (ks js : List CellKey) → map (row_of v) ks ≡ map (row_of v) js
    → AllByRecursion (IsHeld files staged v) ks → AllByRecursion (IsHeld files staged v) js → ks ≡ js
same_keys files staged v [] [] e a b = refl
same_keys files staged v [] (j ∷ js) e a b = absurd (cc)
same_keys files staged v (k ∷ ks) [] e a b = absurd (cc)
same_keys files staged v (k ∷ ks) (j ∷ js) e a b =
    let rows : row_of v k ∷ map (row_of v) ks ≡ row_of v j ∷ map (row_of v) js = e in
    let row : row_of v k ≡ row_of v j = cc in
    let rest : map (row_of v) ks ≡ map (row_of v) js = cc in
    let here : k ≡ j = one_key k j (get files (kept_under staged (row_of v k))) a.0 (subst (λ r. IsSomeAnd (get files (kept_under staged r)) (IsSoundCell j)) (sym row) b.0) in
    λ i. here i ∷ same_keys files staged v ks js rest a.1 b.1 i

one_value : (a b held : Option (List ℕ)) → is_some a ≡ is_some b → ((bytes : List ℕ) → a ≡ Some bytes → held ≡ Some bytes) → ((bytes : List ℕ) → b ≡ Some bytes → held ≡ Some bytes) → a ≡ b
one_value None None held e f g = refl
one_value None (Some y) held e f g = absurd (cc)
one_value (Some x) None held e f g = absurd (cc)
one_value (Some x) (Some y) held e f g = sym (f x refl) ∙ g y refl

one_cells : (c d : Cells) (held : CellKey → Option (List ℕ)) → keys c ≡ keys d → ((key : CellKey) (bytes : List ℕ) → get c key ≡ Some bytes → held key ≡ Some bytes)
    → ((key : CellKey) (bytes : List ℕ) → get d key ≡ Some bytes → held key ≡ Some bytes) → c ≡ d
one_cells c d held e f g = same_map keys_total keys_exact c d (λ q.
    one_value (get c q) (get d q) (held q) (contains_key-keys c q ∙ ap (list_any (eq_by_cmp key_cmp q)) e ∙ sym (contains_key-keys d q)) (f q) (g q))

same_state : {files : Files} {v : Version} {s t : State} {m n : OldMark} → OldReads files v s m → OldReads files v t n → contents_of v s m ≡ contents_of v t n → s ≡ t
same_state {files = files} {v = v} {s = s} {t = t} {m = m} {n = n} a b e =
    let marks : m ≡ n = ap (λ c. c.state) e in
    let other : OldReads files v t m = subst (λ x. OldReads files v t x) (sym marks) b in
    let rows : keys s.cells ≡ keys t.cells = same_keys files (staged_of m) v (keys s.cells) (keys t.cells) (ap (λ c. c.rows) e) (all_held a) (all_held other) in
    let cells : s.cells ≡ t.cells = one_cells s.cells t.cells (λ key. get files (kept_under (staged_of m) (row_of v key))) rows a.cells other.cells in
    let params : s.params ≡ t.params = ap (λ c. c.params) e in
    λ i. record { params = params i; cells = cells i }

-- two readings by old versions are the same
pub one_state : {files : Files} {v w : Version} {s t : State} {m n : OldMark} → OldReads files v s m → OldReads files w t n → (v ≡ w) × ((s ≡ t) × (m ≡ n))
one_state {files = files} {v = v} {w = w} {s = s} {t = t} {m = m} {n = n} a b =
    let versions : v ≡ w = (one_manifest (of_state a) (of_state b)).0 in
    let other : OldReads files v t n = subst (λ x. OldReads files x t n) (sym versions) b in
    let contents : contents_of v s m ≡ contents_of v t n = (one_manifest (of_state a) (of_state other)).1 in
    (versions, (same_state a other contents, ap (λ c. c.state) contents))
