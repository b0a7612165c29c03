-- What is told of the cells of a manifest's rows.
use Rattle.std.specs.Prelude.{◌≡◌, ℕ, ◌<◌, List, Some, take, slice_get}
use Rattle.terrain_base.specs.declared.cell_key.CellKey.{CellKey}
use Rattle.terrain_base.specs.declared.summary.Summary.{Summary}
use Rattle.terrain_base.specs.Step.{Files}
use Rattle.dted_cell.specs.declared.trouble.CellTrouble.{CellTrouble}
use Rattle.dted_cell.specs.Trouble.{name_of, Shows}
use Rattle.cell_mosaic.specs.Summaries.{summary_of}
use Rattle.db_manifest.specs.Manifest.{ManifestState}
use Rattle.database.specs.Opening.{IsKept}
use Rattle.database.specs.Reading.{kept_bytes, summaries_read}
use Rattle.database.specs.State.{kept_under}
use Rattle.database.specs.declared.answer.EngineAnswer.{EngineAnswer}
use Rattle.database.specs.declared.answer.EngineAnswer.TheVariants.{CellPresent, CellAbsent, DatabaseFull, NotEmpty, NotADatabase, Trouble, NoTile, TileLost, OldVersion, NotOld, StoreFault, NoMemory}

-- the row's cell is held, and this is it in short
pub record IsRead (files : Files) (mark : ManifestState) (key : CellKey) (cell : Summary) : Type 0 where
  pub kept : IsKept files mark key
  pub told : cell ≡ summary_of key (kept_bytes files mark key)

-- the files show the trouble under the name that the row's cell is read from
pub record IsTroubleAt (files : Files) (mark : ManifestState) (key : CellKey) (trouble : CellTrouble) : Type 0 where
  pub name_is : name_of trouble ≡ kept_under mark key
  pub shown : Shows key files trouble

-- the answer is a stop, or such trouble
abbrev pub IsRowTrouble : Files → ManifestState → CellKey → EngineAnswer → Type 0
IsRowTrouble files mark key (CellPresent square level) = ⊥
IsRowTrouble files mark key (CellAbsent square level) = ⊥
IsRowTrouble files mark key DatabaseFull = ⊥
IsRowTrouble files mark key (NotEmpty name) = ⊥
IsRowTrouble files mark key (NotADatabase line) = ⊥
IsRowTrouble files mark key (Trouble trouble) = IsTroubleAt files mark key trouble
IsRowTrouble files mark key (NoTile tile) = ⊥
IsRowTrouble files mark key (TileLost name) = ⊥
IsRowTrouble files mark key (OldVersion version) = ⊥
IsRowTrouble files mark key (NotOld version) = ⊥
IsRowTrouble files mark key StoreFault = Unit {0}
IsRowTrouble files mark key NoMemory = Unit {0}

-- ---- all rows

-- up to a place the rows' cells are held, and these are they in short
pub record AreRead (files : Files) (mark : ManifestState) (rows : List CellKey) (count : ℕ)
    (cells : List Summary) : Type 0 where
  pub kept : (n : ℕ) (key : CellKey) → n < count → slice_get rows n ≡ Some key → IsKept files mark key
  pub told : cells ≡ summaries_read files mark (take count rows)

-- the trouble is with the first row whose cell is not held
pub record IsFirstRow (files : Files) (mark : ManifestState) (rows : List CellKey)
    (trouble : CellTrouble) : Type 0 where
  pub place : ℕ
  pub row : CellKey
  pub row_is : slice_get rows place ≡ Some row
  pub before : (n : ℕ) (key : CellKey) → n < place → slice_get rows n ≡ Some key → IsKept files mark key
  pub at : IsTroubleAt files mark row trouble

-- the answer is a stop, or such trouble
abbrev pub IsRowsTrouble : Files → ManifestState → List CellKey → EngineAnswer → Type 0
IsRowsTrouble files mark rows (CellPresent square level) = ⊥
IsRowsTrouble files mark rows (CellAbsent square level) = ⊥
IsRowsTrouble files mark rows DatabaseFull = ⊥
IsRowsTrouble files mark rows (NotEmpty name) = ⊥
IsRowsTrouble files mark rows (NotADatabase line) = ⊥
IsRowsTrouble files mark rows (Trouble trouble) = IsFirstRow files mark rows trouble
IsRowsTrouble files mark rows (NoTile tile) = ⊥
IsRowsTrouble files mark rows (TileLost name) = ⊥
IsRowsTrouble files mark rows (OldVersion version) = ⊥
IsRowsTrouble files mark rows (NotOld version) = ⊥
IsRowsTrouble files mark rows StoreFault = Unit {0}
IsRowsTrouble files mark rows NoMemory = Unit {0}
