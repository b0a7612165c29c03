-- What the reading of a database finds.
use Rattle.std.proofs.Common.{◌≡◌, ℕ, ◌+◌, ◌<◌, ◌≤◌, ◌++◌, List, [], ◌∷◌, length, take, get_or, Some, refl, sym, ap, subst, ◌∙◌, ◌⊎◌, ⊎_elim, arith}
use Rattle.std.specs.Prelude.{slice_get}
use Rattle.std.specs.FinMap.{keys}
use Rattle.std.specs.List.Sorted.{IsStrictlySortedBy}
use Rattle.std.proofs.lemmas.List.{take_more, take_all, map-append, length-map}
use Rattle.std.proofs.lemmas.Option.{slice_get-get_or, slice_get_within}
use Rattle.terrain_base.specs.declared.cell_key.CellKey.{CellKey}
use Rattle.terrain_base.specs.declared.params.Params.{Params}
use Rattle.terrain_base.specs.declared.summary.Summary.{Summary}
use Rattle.terrain_base.specs.CellKey.{key_cmp}
use Rattle.terrain_base.specs.Step.{Files}
use Rattle.dted_cell.specs.declared.trouble.CellTrouble.{CellTrouble}
use Rattle.cell_mosaic.specs.Summaries.{summary_of}
use Rattle.db_manifest.specs.Manifest.{ManifestState, IsManifest, manifest_text}
use Rattle.database.specs.Answer.{IsStop}
use Rattle.database.specs.Cells.{AreRows, row_keys}
use Rattle.database.specs.Opening.{IsFirstTrouble, IsKept}
use Rattle.database.specs.Reading.{kept_bytes, summaries_read, state_read}
use Rattle.database.specs.State.{State, ReadsAs}
use Rattle.database.specs.declared.answer.EngineAnswer.{EngineAnswer}
use Rattle.database.specs.declared.answer.EngineAnswer.TheVariants as answer
use Rattle.database.proofs.Openings.{apart_from_trouble, not_old, not_refused, of_state}
use Rattle.database.proofs.Reading.{reads_as, read_summaries, is_manifest, state_is, all_rows}
use Rattle.db_reading.specs.declared.reading.Reading.{Reading}
use Rattle.db_reading.specs.Found.{Found, IsToldBy}
use Rattle.db_reading.specs.ReadManifest.{IsManifestOf, IsNoManifest}
use Rattle.db_reading.specs.ReadRow.{IsRead, IsRowTrouble, AreRead, IsFirstRow, IsRowsTrouble}

-- ---- row by row

pub none_read : (files : Files) (mark : ManifestState) (rows : List CellKey) → AreRead files mark rows 0 []
none_read files mark rows = record { kept = λ n key less at. absurd (omega arith); told = refl }

earlier_or : (n i : ℕ) → n < i + 1 → (n < i) ⊎ (n ≡ i)
earlier_or n i less = grind arith

one_at : (rows : List CellKey) (i : ℕ) (key found : CellKey) → i < length rows → key ≡ get_or rows i key → slice_get rows i ≡ Some found → found ≡ key
one_at rows i key found less is at = let e : Some found ≡ Some key = sym at ∙ slice_get-get_or rows i key less ∙ ap Some (sym is) in cc

pub one_more : (files : Files) (mark : ManifestState) (rows : List CellKey) (i : ℕ) (key : CellKey) (cells : List Summary) (cell : Summary) → i < length rows → key ≡ get_or rows i key
    → AreRead files mark rows i cells → IsRead files mark key cell → AreRead files mark rows (i + 1) (cells ++ cell ∷ [])
one_more files mark rows i key cells cell less is so_far one = record {
  kept = λ n found near at. ⊎_elim
      (λ before. so_far.kept n found before at)
      (λ here. subst (λ k. IsKept files mark k) (sym (one_at rows i key found less is (ap (slice_get rows) (sym here) ∙ at))) one.kept)
      (earlier_or n i near);
  told =
      ap (λ cs. cs ++ cell ∷ []) so_far.told ∙ ap (λ c. summaries_read files mark (take i rows) ++ c ∷ []) one.told
      ∙ ap (λ k. summaries_read files mark (take i rows) ++ summary_of k (kept_bytes files mark k) ∷ []) is
      ∙ sym (map-append (λ k. summary_of k (kept_bytes files mark k)) (take i rows) (get_or rows i key ∷ []))
      ∙ ap (summaries_read files mark) (sym (take_more rows i key less));
}

-- the keys of one row more
pub key_more : (rows : List CellKey) (i : ℕ) (key : CellKey) (cells : List Summary) (cell : Summary) → i < length rows → key ≡ get_or rows i key
    → row_keys cells ≡ take i rows → row_keys (cell ∷ []) ≡ key ∷ [] → row_keys (cells ++ cell ∷ []) ≡ take (i + 1) rows
key_more rows i key cells cell less is so_far one =
    map-append _ cells (cell ∷ []) ∙ (λ j. so_far j ++ one j) ∙ ap (λ k. take i rows ++ k ∷ []) is ∙ sym (take_more rows i key less)

pub stop_at_row : (files : Files) (mark : ManifestState) (rows : List CellKey) (i : ℕ) (key : CellKey) (cells : List Summary) (a : EngineAnswer) → i < length rows → key ≡ get_or rows i key
    → AreRead files mark rows i cells → IsRowTrouble files mark key a → IsRowsTrouble files mark rows a
stop_at_row files mark rows i key cells (answer.CellPresent square level) less is so_far t = t
stop_at_row files mark rows i key cells (answer.CellAbsent square level) less is so_far t = t
stop_at_row files mark rows i key cells answer.DatabaseFull less is so_far t = t
stop_at_row files mark rows i key cells (answer.NotEmpty name) less is so_far t = t
stop_at_row files mark rows i key cells (answer.NotADatabase line) less is so_far t = t
stop_at_row files mark rows i key cells (answer.Trouble trouble) less is so_far t = record {
  place = i;
  row = key;
  row_is = slice_get-get_or rows i key less ∙ ap Some (sym is);
  before = so_far.kept;
  at = t;
}
stop_at_row files mark rows i key cells (answer.NoTile tile) less is so_far t = t
stop_at_row files mark rows i key cells (answer.TileLost name) less is so_far t = t
stop_at_row files mark rows i key cells (answer.OldVersion version) less is so_far t = t
stop_at_row files mark rows i key cells (answer.NotOld version) less is so_far t = t
stop_at_row files mark rows i key cells answer.StoreFault less is so_far t = tt
stop_at_row files mark rows i key cells answer.NoMemory less is so_far t = tt

-- rows whose keys are those of a good manifest
pub are_rows : {params : Params} {mark : ManifestState} {keys : List CellKey} (rows : List Summary) → row_keys rows ≡ keys → IsManifest params mark keys → AreRows rows
are_rows {keys = keys} rows same good = record {
  ascend = subst (λ ks. IsStrictlySortedBy key_cmp ks) (sym same) good.ascend;
  few =
      let count : length rows ≡ length keys = sym (length-map rows _) ∙ ap length same in
      let most : length keys ≤ 4096 = good.few in
      omega arith;
}

-- ---- all of it

pub found_of : (files : Files) (params : Params) (mark : ManifestState) (rows : List CellKey) (r : Reading) → IsManifestOf files params mark rows → AreRead files mark rows (length rows) r.rows.items → r.params ≡ params → r.mark ≡ mark → Found files r
found_of files params mark rows r is read p e =
    let all = all_rows (IsKept files mark) rows (λ n key at. read.kept n key (slice_get_within rows n key at) at) in
    let reads = reads_as files params mark rows (is.held ∙ ap Some is.is.text) is.is.good all in
    let told = read.told ∙ ap (summaries_read files mark) (take_all (length rows) rows (omega arith)) ∙ sym (read_summaries files mark rows is.is.good.ascend) in
    record {
      state = state_read params mark rows files;
      known = record { files = files; held_is = refl; reads = subst (λ m. ReadsAs files (state_read params mark rows files) m) (sym e) reads; params_is = p; rows_is = told };
      only = λ s m other.
          let texts : Some is.bytes ≡ Some (manifest_text s.params m (keys s.cells)) = sym is.held ∙ other.manifest in
          let text : is.bytes ≡ manifest_text s.params m (keys s.cells) = cc in
          let same = is.is.only s.params m (keys s.cells) (is_manifest other) text in
          (state_is params mark rows other same.0 same.1.0 same.1.1, same.1.0 ∙ sym e);
    }

first_of : (files : Files) (params : Params) (mark : ManifestState) (rows : List CellKey) (trouble : CellTrouble) → IsManifestOf files params mark rows → IsFirstRow files mark rows trouble → IsFirstTrouble files trouble
first_of files params mark rows trouble is f = record {
  params = params;
  mark = mark;
  rows = rows;
  manifest = is.held ∙ ap Some is.is.text;
  is_good = is.is.good;
  place = f.place;
  row = f.row;
  row_is = f.row_is;
  before = f.before;
  name_is = f.at.name_is;
  shown = f.at.shown;
}

pub told_of : (files : Files) (params : Params) (mark : ManifestState) (rows : List CellKey) (a : EngineAnswer) → IsManifestOf files params mark rows → IsRowsTrouble files mark rows a → IsToldBy files a
told_of files params mark rows (answer.CellPresent square level) is t = t
told_of files params mark rows (answer.CellAbsent square level) is t = t
told_of files params mark rows answer.DatabaseFull is t = t
told_of files params mark rows (answer.NotEmpty name) is t = t
told_of files params mark rows (answer.NotADatabase line) is t = absurd t
told_of files params mark rows (answer.Trouble trouble) is t = first_of files params mark rows trouble is t
told_of files params mark rows (answer.NoTile tile) is t = t
told_of files params mark rows (answer.TileLost name) is t = t
told_of files params mark rows (answer.OldVersion version) is t = absurd t
told_of files params mark rows (answer.NotOld version) is t = t
told_of files params mark rows answer.StoreFault is t = tt
told_of files params mark rows answer.NoMemory is t = tt

pub stop_of : (files : Files) (params : Params) (mark : ManifestState) (rows : List CellKey) (a : EngineAnswer) (s : State) (m : ManifestState) → IsManifestOf files params mark rows → IsRowsTrouble files mark rows a → ReadsAs files s m → IsStop a
unfolding first_of
stop_of files params mark rows (answer.CellPresent square level) s m is t reads = t
stop_of files params mark rows (answer.CellAbsent square level) s m is t reads = t
stop_of files params mark rows answer.DatabaseFull s m is t reads = t
stop_of files params mark rows (answer.NotEmpty name) s m is t reads = t
stop_of files params mark rows (answer.NotADatabase line) s m is t reads = t
stop_of files params mark rows (answer.Trouble trouble) s m is t reads =
    let texts : Some is.bytes ≡ Some (manifest_text s.params m (keys s.cells)) = sym is.held ∙ reads.manifest in
    let text : is.bytes ≡ manifest_text s.params m (keys s.cells) = cc in
    let same = is.is.only s.params m (keys s.cells) (is_manifest reads) text in
    apart_from_trouble reads (first_of files params mark rows trouble is t) same.1.0 same.1.1
stop_of files params mark rows (answer.NoTile tile) s m is t reads = t
stop_of files params mark rows (answer.TileLost name) s m is t reads = t
stop_of files params mark rows (answer.OldVersion version) s m is t reads = t
stop_of files params mark rows (answer.NotOld version) s m is t reads = t
stop_of files params mark rows answer.StoreFault s m is t reads = tt
stop_of files params mark rows answer.NoMemory s m is t reads = tt

pub told_none : (files : Files) (a : EngineAnswer) → IsNoManifest files a → IsToldBy files a
told_none files (answer.CellPresent square level) t = t
told_none files (answer.CellAbsent square level) t = t
told_none files answer.DatabaseFull t = t
told_none files (answer.NotEmpty name) t = t
told_none files (answer.NotADatabase line) t = t
told_none files (answer.Trouble trouble) t = absurd t
told_none files (answer.NoTile tile) t = t
told_none files (answer.TileLost name) t = t
told_none files (answer.OldVersion version) t = t
told_none files (answer.NotOld version) t = t
told_none files answer.StoreFault t = tt
told_none files answer.NoMemory t = tt

pub stop_none : (files : Files) (a : EngineAnswer) (s : State) (m : ManifestState) → IsNoManifest files a → ReadsAs files s m → IsStop a
stop_none files (answer.CellPresent square level) s m t reads = t
stop_none files (answer.CellAbsent square level) s m t reads = t
stop_none files answer.DatabaseFull s m t reads = t
stop_none files (answer.NotEmpty name) s m t reads = t
stop_none files (answer.NotADatabase line) s m t reads = not_refused line (of_state reads) t
stop_none files (answer.Trouble trouble) s m t reads = t
stop_none files (answer.NoTile tile) s m t reads = t
stop_none files (answer.TileLost name) s m t reads = t
stop_none files (answer.OldVersion version) s m t reads = not_old version (of_state reads) t
stop_none files (answer.NotOld version) s m t reads = t
stop_none files answer.StoreFault s m t reads = tt
stop_none files answer.NoMemory s m t reads = tt

-- ---- by what was passed on

pub rows_trouble_as : (files : Files) (mark mark' : ManifestState) (rows rows' : List CellKey) (a : EngineAnswer) → mark ≡ mark' → rows ≡ rows' → IsRowsTrouble files mark rows a → IsRowsTrouble files mark' rows' a
rows_trouble_as files mark mark' rows rows' a p q t = subst (λ ks. IsRowsTrouble files mark' ks a) q (subst (λ m. IsRowsTrouble files m rows a) p t)

pub are_read_as : (files : Files) (mark mark' : ManifestState) (rows rows' : List CellKey) (cells : List Summary) → mark ≡ mark' → rows ≡ rows' → AreRead files mark rows (length rows) cells → AreRead files mark' rows' (length rows') cells
are_read_as files mark mark' rows rows' cells p q r = subst (λ ks. AreRead files mark' ks (length ks) cells) q (subst (λ m. AreRead files m rows (length rows) cells) p r)
