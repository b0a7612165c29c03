-- What the reading of an old database tells.
use Rattle.std.specs.Prelude.{◌≡◌, ℕ, List, Option, Some, None, IsSomeAnd}
use Rattle.std.specs.FinMap.{get}
use Rattle.std.specs.List.{AllByRecursion}
use Rattle.terrain_base.specs.declared.name.Key.TheVariants.{Manifest}
use Rattle.terrain_base.specs.declared.summary.Summary.{Summary}
use Rattle.terrain_base.specs.Step.{Files}
use Rattle.cell_mosaic.specs.Cells.{IsSoundCell}
use Rattle.cell_mosaic.specs.Summaries.{summary_of, summaries_of}
use Rattle.manifest_lines.specs.declared.version.Version.{Version}
use Rattle.old_manifest.specs.declared.row.OldRow.{OldRow}
use Rattle.old_manifest.specs.Manifest.{Contents, IsTextOf, staged_of, version_of}
use Rattle.database.specs.Answer.{IsStop}
use Rattle.database.specs.Cells.{row_key}
use Rattle.database.specs.State.{State}
use Rattle.database.specs.declared.answer.EngineAnswer.{EngineAnswer}
use Rattle.database.specs.declared.answer.EngineAnswer.TheVariants as answer
use Rattle.db_old_reading.specs.declared.reading.OldReading.{OldReading}
use Rattle.db_old_reading.specs.Kept.{row_of, kept_under, bytes_under}
use Rattle.db_old_reading.specs.OldReads.{OldMark, OldReads}
use Rattle.db_old_reading.specs.OldOpening.{IsPresent, RefusedAt, IsTroubleAt, IsFirstRow, OldOpening, MigratesAs, old_opening_of}

-- ---- of the manifest

-- bytes are refused as this answer says: they are of the present version, or not and refused for a line
abbrev pub IsRefusedAs : List ℕ → EngineAnswer → Type 0
IsRefusedAs bytes (answer.CellPresent square level) = ⊥
IsRefusedAs bytes (answer.CellAbsent square level) = ⊥
IsRefusedAs bytes answer.DatabaseFull = ⊥
IsRefusedAs bytes (answer.NotEmpty name) = ⊥
IsRefusedAs bytes (answer.NotADatabase line) = RefusedAt line (Some bytes)
IsRefusedAs bytes (answer.Trouble trouble) = ⊥
IsRefusedAs bytes (answer.NoTile tile) = ⊥
IsRefusedAs bytes (answer.TileLost name) = ⊥
IsRefusedAs bytes (answer.OldVersion version) = ⊥
IsRefusedAs bytes (answer.NotOld version) = IsPresent version bytes
IsRefusedAs bytes answer.StoreFault = ⊥
IsRefusedAs bytes answer.NoMemory = Unit {0}

-- the bytes are the text of this good manifest of the old version, and of no other
pub record IsOldText (bytes : List ℕ) (v : Version) (contents : Contents) : Type 0 where
  pub version_is : v ≡ version_of bytes
  pub is : IsTextOf bytes contents

-- so are the bytes that are held
pub record IsManifestOf (files : Files) (v : Version) (contents : Contents) : Type 0 where
  pub bytes : List ℕ
  pub held : get files Manifest ≡ Some bytes
  pub text : IsOldText bytes v contents

-- no good manifest of an old version is held, as the answer says, where it is no stop
abbrev pub IsNoManifest : Files → EngineAnswer → Type 0
IsNoManifest files (answer.CellPresent square level) = ⊥
IsNoManifest files (answer.CellAbsent square level) = ⊥
IsNoManifest files answer.DatabaseFull = ⊥
IsNoManifest files (answer.NotEmpty name) = ⊥
IsNoManifest files (answer.NotADatabase line) = RefusedAt line (get files Manifest)
IsNoManifest files (answer.Trouble trouble) = ⊥
IsNoManifest files (answer.NoTile tile) = ⊥
IsNoManifest files (answer.TileLost name) = ⊥
IsNoManifest files (answer.OldVersion version) = ⊥
IsNoManifest files (answer.NotOld version) = IsSomeAnd (get files Manifest) (IsPresent version)
IsNoManifest files answer.StoreFault = Unit {0}
IsNoManifest files answer.NoMemory = Unit {0}

-- ---- of the cells

-- the row's cell is held, and this is it in short
pub record IsRead (files : Files) (staged : Option OldRow) (row : OldRow) (cell : Summary) : Type 0 where
  pub kept : IsSomeAnd (get files (kept_under staged row)) (IsSoundCell (row_key cell))
  pub told : cell ≡ summary_of (row_key cell) (bytes_under files (kept_under staged row))

-- each is the cell of its row, in short
abbrev pub AreRead : Files → Version → Option OldRow → List Summary → Type 0
AreRead files v staged cells = AllByRecursion (λ cell. IsRead files staged (row_of v (row_key cell)) cell) cells

-- the answer is a stop, or trouble with the row's cell
abbrev pub IsRowTrouble : Files → Option OldRow → OldRow → EngineAnswer → Type 0
IsRowTrouble files staged row (answer.CellPresent square level) = ⊥
IsRowTrouble files staged row (answer.CellAbsent square level) = ⊥
IsRowTrouble files staged row answer.DatabaseFull = ⊥
IsRowTrouble files staged row (answer.NotEmpty name) = ⊥
IsRowTrouble files staged row (answer.NotADatabase line) = ⊥
IsRowTrouble files staged row (answer.Trouble trouble) = IsTroubleAt files staged row trouble
IsRowTrouble files staged row (answer.NoTile tile) = ⊥
IsRowTrouble files staged row (answer.TileLost name) = ⊥
IsRowTrouble files staged row (answer.OldVersion version) = ⊥
IsRowTrouble files staged row (answer.NotOld version) = ⊥
IsRowTrouble files staged row answer.StoreFault = Unit {0}
IsRowTrouble files staged row answer.NoMemory = Unit {0}

-- the answer is a stop, or trouble with the first row whose cell is not held
abbrev pub IsRowsTrouble : Files → Option OldRow → List OldRow → EngineAnswer → Type 0
IsRowsTrouble files staged rows (answer.CellPresent square level) = ⊥
IsRowsTrouble files staged rows (answer.CellAbsent square level) = ⊥
IsRowsTrouble files staged rows answer.DatabaseFull = ⊥
IsRowsTrouble files staged rows (answer.NotEmpty name) = ⊥
IsRowsTrouble files staged rows (answer.NotADatabase line) = ⊥
IsRowsTrouble files staged rows (answer.Trouble trouble) = IsFirstRow files staged rows trouble
IsRowsTrouble files staged rows (answer.NoTile tile) = ⊥
IsRowsTrouble files staged rows (answer.TileLost name) = ⊥
IsRowsTrouble files staged rows (answer.OldVersion version) = ⊥
IsRowsTrouble files staged rows (answer.NotOld version) = ⊥
IsRowsTrouble files staged rows answer.StoreFault = Unit {0}
IsRowsTrouble files staged rows answer.NoMemory = Unit {0}

-- ---- of all

-- the files read as the state with this mark, and that is what was read
pub record IsReadingOf (files : Files) (v : Version) (s : State) (mark : OldMark) (r : OldReading) : Type 0 where
  pub reads : OldReads files v s mark
  pub version_is : r.version ≡ v
  pub staged_is : r.staged ≡ staged_of mark
  pub params_is : r.params ≡ s.params
  pub rows_is : r.rows.items ≡ summaries_of s.cells

-- they read as some state that was read
pub record Found (files : Files) (r : OldReading) : Type 0 where
  pub version : Version
  pub state : State
  pub mark : OldMark
  pub is : IsReadingOf files version state mark r

-- the files open as the answer says; one that says nothing of it is a stop
abbrev pub IsToldAs : Option OldOpening → Files → EngineAnswer → Type 0
IsToldAs None files answer = IsStop answer
IsToldAs (Some opening) files answer = MigratesAs files opening

abbrev pub IsToldBy : Files → EngineAnswer → Type 0
IsToldBy files answer = IsToldAs (old_opening_of answer) files answer
