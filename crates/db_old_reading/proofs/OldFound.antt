-- What the reading of an old database finds.
use Rattle.std.proofs.Common.{◌≡◌, ℕ, ◌<◌, ◌≤◌, Bool, true, false, cond, List, [], ◌∷◌, length, map, Option, Some, refl, sym, ap, subst, ◌∙◌, arith}
use Rattle.std.specs.Prelude.{IsSomeAnd}
use Rattle.std.specs.FinMap.{get, keys, entries, find, from_sorted, entries-from_sorted, get-from_sorted}
use Rattle.std.specs.List.{AllByRecursion}
use Rattle.std.specs.List.Sorted.{IsStrictlySortedBy}
use Rattle.std.specs.Ordering.{eq_by_cmp, ordering_then}
use Rattle.std.specs.declared.cmp.Ordering.{Ordering}
use Rattle.std.specs.declared.cmp.Ordering.TheVariants.{Less, Equal, Greater}
use Rattle.std.proofs.lemmas.List.{length-map}
use Rattle.terrain_base.specs.declared.cell_key.CellKey.{CellKey}
use Rattle.terrain_base.specs.declared.name.Key.TheVariants.{Manifest}
use Rattle.terrain_base.specs.declared.summary.Summary.{Summary}
use Rattle.terrain_base.specs.CellKey.{key_cmp}
use Rattle.terrain_base.specs.SquareOrder.{square_cmp}
use Rattle.terrain_base.specs.Step.{Files}
use Rattle.dted_cell.specs.declared.trouble.CellTrouble.{CellTrouble}
use Rattle.cell_mosaic.specs.Cells.{Cells, IsSoundCell}
use Rattle.cell_mosaic.specs.Summaries.{summary_of, summaries_of}
use Rattle.manifest_lines.specs.declared.version.Version.{Version}
use Rattle.manifest_lines.specs.declared.version.Version.TheVariants.{One, Two, Three}
use Rattle.manifest_lines.specs.Version.{version_number}
use Rattle.old_manifest.specs.declared.row.OldRow.{OldRow}
use Rattle.old_manifest.specs.Manifest.{Contents, IsManifest, manifest_text, staged_of}
use Rattle.old_manifest.specs.Rows.{old_cmp}
use Rattle.database.specs.Answer.{IsStop}
use Rattle.database.specs.Cells.{AreRows, row_key, row_keys}
use Rattle.database.specs.State.{State}
use Rattle.database.specs.declared.answer.EngineAnswer.{EngineAnswer}
use Rattle.database.specs.declared.answer.EngineAnswer.TheVariants as answer
use Rattle.database.proofs.Reading.{sorted_entries, keys_back, told_back, kept_is}
use Rattle.database.proofs.Tests.{key_same}
use Rattle.db_old_reading.specs.declared.reading.OldReading.{OldReading}
use Rattle.db_old_reading.specs.Kept.{row_of, kept_under, bytes_under}
use Rattle.db_old_reading.specs.OldOpening.{IsFirstRow, IsFirstTrouble, IsPresent, RefusedAt}
use Rattle.db_old_reading.specs.OldReads.{OldMark, OldReads, contents_of}
use Rattle.db_old_reading.specs.Told.{IsOldText, IsManifestOf, IsNoManifest, IsRefusedAs, AreRead, IsRowsTrouble, IsReadingOf, Found, IsToldBy}
use Rattle.db_old_reading.proofs.OldOpenings.{not_in_trouble, not_present, not_refused}
use Rattle.db_old_reading.proofs.OldStates.{HasManifest, IsHeld, of_state, one_manifest, one_state}

-- ---- the manifest

-- the bytes that are refused are those that are held
pub held_refused : (files : Files) (bytes : List ℕ) (a : EngineAnswer) → Some bytes ≡ get files Manifest → IsRefusedAs bytes a → IsNoManifest files a
held_refused files bytes (answer.CellPresent square level) held t = t
held_refused files bytes (answer.CellAbsent square level) held t = t
held_refused files bytes answer.DatabaseFull held t = t
held_refused files bytes (answer.NotEmpty name) held t = t
held_refused files bytes (answer.NotADatabase line) held t = subst (λ o. RefusedAt line o) held t
held_refused files bytes (answer.Trouble trouble) held t = t
held_refused files bytes (answer.NoTile tile) held t = t
held_refused files bytes (answer.TileLost name) held t = t
held_refused files bytes (answer.OldVersion version) held t = t
held_refused files bytes (answer.NotOld version) held t = subst (λ o. IsSomeAnd o (IsPresent version)) held t
held_refused files bytes answer.StoreFault held t = tt
held_refused files bytes answer.NoMemory held t = tt

pub good_text : (bytes : List ℕ) (v : Version) (m : Contents) → IsOldText bytes v m → IsManifest v m
good_text bytes v m t = subst (λ x. IsManifest x m) (sym t.version_is) t.is.good

-- ---- rows that ascend have keys that do

first_less : (o p : Ordering) → ordering_then o Equal ≡ Less → ordering_then o p ≡ Less
first_less Less p e = refl
first_less Equal p e = absurd (cc)
first_less Greater p e = absurd (cc)

less_back : (v : Version) (a b : CellKey) → old_cmp (row_of v a) (row_of v b) ≡ Less → key_cmp a b ≡ Less
less_back One a b e = first_less (square_cmp a.square b.square) _ e
less_back Two a b e = e
less_back Three a b e = e

below_back : (v : Version) (x : CellKey) (ks : List CellKey) → AllByRecursion (λ y. old_cmp (row_of v x) y ≡ Less) (map (row_of v) ks) → AllByRecursion (λ y. key_cmp x y ≡ Less) ks
below_back v x [] all = tt
below_back v x (k ∷ ks) all = (less_back v x k all.0, below_back v x ks all.1)

ascend_back : (v : Version) (ks : List CellKey) → IsStrictlySortedBy old_cmp (map (row_of v) ks) → IsStrictlySortedBy key_cmp ks
unfolding IsStrictlySortedBy
ascend_back v [] asc = tt
ascend_back v (k ∷ ks) asc = (below_back v k ks asc.0, ascend_back v ks asc.1)

keys_ascend : {v : Version} {m : Contents} (ks : List CellKey) → IsManifest v m → map (row_of v) ks ≡ m.rows → IsStrictlySortedBy key_cmp ks
keys_ascend {v = v} ks good same = ascend_back v ks (subst (λ rows. IsStrictlySortedBy old_cmp rows) (sym same) good.lines.rows.0)

few_keys : {v : Version} {m : Contents} (ks : List CellKey) → IsManifest v m → map (row_of v) ks ≡ m.rows → length ks ≤ 4096
few_keys {v = v} {m = m} ks good same =
    let count : length ks ≡ length m.rows = sym (length-map ks (row_of v)) ∙ ap length same in
    let most : length m.rows ≤ 4096 = good.lines.few in
    omega arith

pub are_rows : {v : Version} {m : Contents} (cells : List Summary) → IsManifest v m → map (row_of v) (row_keys cells) ≡ m.rows → AreRows cells
are_rows {m = m} cells good same = record {
  ascend = keys_ascend (row_keys cells) good same;
  few =
      let count : length (row_keys cells) ≡ length cells = length-map cells row_key in
      let most : length (row_keys cells) ≤ 4096 = few_keys (row_keys cells) good same in
      omega arith;
}

-- ---- the state that was read

abbrev bytes_of : Files → Option OldRow → Version → CellKey → List ℕ
bytes_of files staged v key = bytes_under files (kept_under staged (row_of v key))

abbrev cells_of : Files → Option OldRow → Version → List CellKey → Cells
cells_of files staged v ks = from_sorted (map (λ k. (k, bytes_of files staged v k)) ks)

cells_entries : (files : Files) (staged : Option OldRow) (v : Version) (ks : List CellKey) → IsStrictlySortedBy key_cmp ks → entries (cells_of files staged v ks) ≡ map (λ k. (k, bytes_of files staged v k)) ks
cells_entries files staged v ks asc = entries-from_sorted key_cmp (map (λ k. (k, bytes_of files staged v k)) ks) (sorted_entries (bytes_of files staged v) ks asc)

cells_keys : (files : Files) (staged : Option OldRow) (v : Version) (ks : List CellKey) → IsStrictlySortedBy key_cmp ks → keys (cells_of files staged v ks) ≡ ks
cells_keys files staged v ks asc = ap (map (λ (e : CellKey × List ℕ). e.0)) (cells_entries files staged v ks asc) ∙ keys_back (bytes_of files staged v) ks

cells_in_short : (files : Files) (staged : Option OldRow) (v : Version) (ks : List CellKey) → IsStrictlySortedBy key_cmp ks → summaries_of (cells_of files staged v ks) ≡ map (λ k. summary_of k (bytes_of files staged v k)) ks
cells_in_short files staged v ks asc = ap (map (λ (e : CellKey × List ℕ). summary_of e.0 e.1)) (cells_entries files staged v ks asc) ∙ told_back (bytes_of files staged v) ks

all_told : (files : Files) (v : Version) (staged : Option OldRow) (cells : List Summary) → AreRead files v staged cells → cells ≡ map (λ k. summary_of k (bytes_of files staged v k)) (row_keys cells)
all_told files v staged [] all = refl
all_told files v staged (cell ∷ cells) all = λ i. all.0.told i ∷ all_told files v staged cells all.1 i

all_held : (files : Files) (v : Version) (staged : Option OldRow) (cells : List Summary) → AreRead files v staged cells → AllByRecursion (IsHeld files staged v) (row_keys cells)
all_held files v staged [] all = tt
all_held files v staged (cell ∷ cells) all = (all.0.kept, all_held files v staged cells all.1)

abbrev IsAt : Files → Option OldRow → Version → CellKey → List ℕ → Type 0
IsAt files staged v key bytes = (get files (kept_under staged (row_of v key)) ≡ Some bytes) × IsSoundCell key bytes

find_head : (files : Files) (staged : Option OldRow) (v : Version) (k q : CellKey) (ks : List CellKey) (bytes : List ℕ) (b : Bool) → (b ≡ true → q ≡ k) → IsHeld files staged v k
    → (find key_cmp q (map (λ j. (j, bytes_of files staged v j)) ks) ≡ Some bytes → IsAt files staged v q bytes)
    → cond b (Some (bytes_of files staged v k)) (find key_cmp q (map (λ j. (j, bytes_of files staged v j)) ks)) ≡ Some bytes → IsAt files staged v q bytes
find_head files staged v k q ks bytes true same held rest e =
    subst (λ j. IsAt files staged v j bytes) (sym (same refl)) (kept_is (get files (kept_under staged (row_of v k))) k bytes held e)
find_head files staged v k q ks bytes false same held rest e = rest e

find_key : (files : Files) (staged : Option OldRow) (v : Version) (ks : List CellKey) (q : CellKey) (bytes : List ℕ) → AllByRecursion (IsHeld files staged v) ks
    → find key_cmp q (map (λ j. (j, bytes_of files staged v j)) ks) ≡ Some bytes → IsAt files staged v q bytes
find_key files staged v [] q bytes all e = absurd (cc)
find_key files staged v (k ∷ ks) q bytes all e = find_head files staged v k q ks bytes (eq_by_cmp key_cmp q k) (key_same q k) all.0 (find_key files staged v ks q bytes all.1) e

cell_at : (files : Files) (staged : Option OldRow) (v : Version) (ks : List CellKey) → IsStrictlySortedBy key_cmp ks → AllByRecursion (IsHeld files staged v) ks → (q : CellKey) (bytes : List ℕ) → get (cells_of files staged v ks) q ≡ Some bytes → IsAt files staged v q bytes
cell_at files staged v ks asc all q bytes at =
    find_key files staged v ks q bytes all (sym (get-from_sorted key_cmp (map (λ j. (j, bytes_of files staged v j)) ks) q (sorted_entries (bytes_of files staged v) ks asc)) ∙ at)

pub has_of : {files : Files} {v : Version} {m : Contents} → IsManifestOf files v m → HasManifest files v m
has_of {files = files} {v = v} {m = m} is = record {
  manifest = is.held ∙ ap Some (is.text.is.text ∙ ap (λ x. manifest_text x m) (sym is.text.version_is));
  good = good_text is.bytes v m is.text;
}

pub found_of : (files : Files) (v : Version) (m : Contents) (cells : List Summary) (r : OldReading) → version_number v < 3 → IsManifestOf files v m → AreRead files v (staged_of m.state) cells → map (row_of v) (row_keys cells) ≡ m.rows
    → r.version ≡ v → r.params ≡ m.params → r.staged ≡ staged_of m.state → r.rows.items ≡ cells → Found files r
found_of files v m cells r old is read same version params staged rows =
    let ks = row_keys cells in
    let has = has_of is in
    let asc = keys_ascend ks has.good same in
    let state : State = record { params = m.params; cells = cells_of files (staged_of m.state) v ks } in
    let contents : m ≡ contents_of v state m.state = λ i. record { params = m.params; state = m.state; rows = (sym same ∙ ap (map (row_of v)) (sym (cells_keys files (staged_of m.state) v ks asc))) i } in
    let all = all_held files v (staged_of m.state) cells read in
    record {
      version = v;
      state = state;
      mark = m.state;
      is = record {
        reads = record {
          old = old;
          manifest = has.manifest ∙ ap (λ c. Some (manifest_text v c)) contents;
          good = subst (λ c. IsManifest v c) contents has.good;
          state = record {
            few = subst (λ js. length js ≤ 4096) (sym (cells_keys files (staged_of m.state) v ks asc)) (few_keys ks has.good same);
            sound = λ q bytes at. (cell_at files (staged_of m.state) v ks asc all q bytes at).1;
          };
          cells = λ q bytes at. (cell_at files (staged_of m.state) v ks asc all q bytes at).0;
        };
        version_is = version;
        staged_is = staged;
        params_is = params;
        rows_is = rows ∙ all_told files v (staged_of m.state) cells read ∙ sym (cells_in_short files (staged_of m.state) v ks asc);
      };
    }

-- ---- answers

first_of : (files : Files) (v : Version) (m : Contents) (trouble : CellTrouble) → version_number v < 3 → IsManifestOf files v m → IsFirstRow files (staged_of m.state) m.rows trouble → IsFirstTrouble files trouble
first_of files v m trouble old is f =
    let has = has_of is in
    record { version = v; contents = m; old = old; manifest = has.manifest; good = has.good; first = f }

pub told_of : (files : Files) (v : Version) (m : Contents) (a : EngineAnswer) → version_number v < 3 → IsManifestOf files v m → IsRowsTrouble files (staged_of m.state) m.rows a → IsToldBy files a
told_of files v m (answer.CellPresent square level) old is t = t
told_of files v m (answer.CellAbsent square level) old is t = t
told_of files v m answer.DatabaseFull old is t = t
told_of files v m (answer.NotEmpty name) old is t = t
told_of files v m (answer.NotADatabase line) old is t = absurd t
told_of files v m (answer.Trouble trouble) old is t = first_of files v m trouble old is t
told_of files v m (answer.NoTile tile) old is t = t
told_of files v m (answer.TileLost name) old is t = t
told_of files v m (answer.OldVersion version) old is t = t
told_of files v m (answer.NotOld version) old is t = absurd t
told_of files v m answer.StoreFault old is t = tt
told_of files v m answer.NoMemory old is t = tt

pub stop_of : (files : Files) (v w : Version) (m : Contents) (a : EngineAnswer) (s : State) (mark : OldMark) → IsManifestOf files v m → IsRowsTrouble files (staged_of m.state) m.rows a → OldReads files w s mark → IsStop a
stop_of files v w m (answer.CellPresent square level) s mark is t reads = t
stop_of files v w m (answer.CellAbsent square level) s mark is t reads = t
stop_of files v w m answer.DatabaseFull s mark is t reads = t
stop_of files v w m (answer.NotEmpty name) s mark is t reads = t
stop_of files v w m (answer.NotADatabase line) s mark is t reads = t
stop_of files v w m (answer.Trouble trouble) s mark is t reads = not_in_trouble reads (one_manifest (of_state reads) (has_of is)).1 t
stop_of files v w m (answer.NoTile tile) s mark is t reads = t
stop_of files v w m (answer.TileLost name) s mark is t reads = t
stop_of files v w m (answer.OldVersion version) s mark is t reads = t
stop_of files v w m (answer.NotOld version) s mark is t reads = t
stop_of files v w m answer.StoreFault s mark is t reads = tt
stop_of files v w m answer.NoMemory s mark is t reads = tt

pub told_none : (files : Files) (a : EngineAnswer) → IsNoManifest files a → IsToldBy files a
told_none files (answer.CellPresent square level) t = t
told_none files (answer.CellAbsent square level) t = t
told_none files answer.DatabaseFull t = t
told_none files (answer.NotEmpty name) t = t
told_none files (answer.NotADatabase line) t = t
told_none files (answer.Trouble trouble) t = absurd t
told_none files (answer.NoTile tile) t = t
told_none files (answer.TileLost name) t = t
told_none files (answer.OldVersion version) t = t
told_none files (answer.NotOld version) t = t
told_none files answer.StoreFault t = tt
told_none files answer.NoMemory t = tt

pub stop_none : (files : Files) (a : EngineAnswer) (v : Version) (s : State) (mark : OldMark) → IsNoManifest files a → OldReads files v s mark → IsStop a
stop_none files (answer.CellPresent square level) v s mark t reads = t
stop_none files (answer.CellAbsent square level) v s mark t reads = t
stop_none files answer.DatabaseFull v s mark t reads = t
stop_none files (answer.NotEmpty name) v s mark t reads = t
stop_none files (answer.NotADatabase line) v s mark t reads = not_refused line reads.old (of_state reads) t
stop_none files (answer.Trouble trouble) v s mark t reads = t
stop_none files (answer.NoTile tile) v s mark t reads = t
stop_none files (answer.TileLost name) v s mark t reads = t
stop_none files (answer.OldVersion version) v s mark t reads = t
stop_none files (answer.NotOld version) v s mark t reads = not_present version reads.old (of_state reads) t
stop_none files answer.StoreFault v s mark t reads = tt
stop_none files answer.NoMemory v s mark t reads = tt

-- what was read is what the files read as
pub only_of : (files : Files) (v : Version) (s : State) (mark : OldMark) (r : OldReading) → Found files r → OldReads files v s mark → IsReadingOf files v s mark r
only_of files v s mark r found reads =
    let same = one_state found.is.reads reads in
    record {
      reads = reads;
      version_is = found.is.version_is ∙ same.0;
      staged_is = found.is.staged_is ∙ ap staged_of same.1.1;
      params_is = found.is.params_is ∙ ap (λ t. t.params) same.1.0;
      rows_is = found.is.rows_is ∙ ap (λ t. summaries_of t.cells) same.1.0;
    }

-- ---- by what was passed on

pub rows_trouble_as : (files : Files) (staged put : Option OldRow) (rows others : List OldRow) (a : EngineAnswer) → staged ≡ put → rows ≡ others → IsRowsTrouble files staged rows a → IsRowsTrouble files put others a
rows_trouble_as files staged put rows others a p q t = subst (λ rs. IsRowsTrouble files put rs a) q (subst (λ o. IsRowsTrouble files o rows a) p t)

pub are_read_as : (files : Files) (v : Version) (staged put : Option OldRow) (cells : List Summary) → staged ≡ put → AreRead files v staged cells → AreRead files v put cells
are_read_as files v staged put cells p r = subst (λ o. AreRead files v o cells) p r
