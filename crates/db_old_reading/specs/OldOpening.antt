-- What a map of files opens as by an old version: a state with what is under way, or the reason why it opens as none.
use Rattle.std.specs.Prelude.{◌≡◌, ◌≢◌, ◌++◌, ◌∷◌, ℕ, ◌<◌, List, Option, Some, None, IsSomeAnd}
use Rattle.std.specs.FinMap.{get}
use Rattle.std.specs.List.{AllByRecursion}
use Rattle.terrain_base.specs.declared.name.Key.TheVariants.{Manifest}
use Rattle.terrain_base.specs.Step.{Files}
use Rattle.dted_cell.specs.declared.trouble.CellTrouble.{CellTrouble}
use Rattle.dted_cell.specs.Trouble.{name_of, Shows}
use Rattle.cell_mosaic.specs.Cells.{IsSoundCell}
use Rattle.manifest_lines.specs.declared.version.Version.{Version}
use Rattle.manifest_lines.specs.Refused.{IsBadLine}
use Rattle.manifest_lines.specs.Version.{version_in, version_number}
use Rattle.old_manifest.specs.declared.row.OldRow.{OldRow}
use Rattle.old_manifest.specs.Manifest.{Contents, IsManifest, manifest_text, staged_of, version_of}
use Rattle.old_manifest.specs.Rows.{old_grammar}
use Rattle.database.specs.State.{State}
use Rattle.database.specs.declared.answer.EngineAnswer.{EngineAnswer}
use Rattle.database.specs.declared.answer.EngineAnswer.TheVariants as answer
use Rattle.db_old_reading.specs.Kept.{key_of, kept_under, bytes_under}
use Rattle.db_old_reading.specs.OldReads.{OldMark, OldReads}

-- a cell of the row's square, and of its level where it has one, is held where the row's cell is kept
abbrev pub IsKept : Files → Option OldRow → OldRow → Type 0
IsKept files staged row = IsSomeAnd (get files (kept_under staged row)) (λ bytes. IsSoundCell (key_of row bytes) bytes)

-- the files show the trouble under the name that the row's cell is read from. A file cannot be of another level than a
-- row that has none.
pub record IsTroubleAt (files : Files) (staged : Option OldRow) (row : OldRow) (trouble : CellTrouble) : Type 0 where
  pub name_is : name_of trouble ≡ kept_under staged row
  pub shown : Shows (key_of row (bytes_under files (name_of trouble))) files trouble

-- the trouble is with the first of the rows whose cell is not held
pub record IsFirstRow (files : Files) (staged : Option OldRow) (rows : List OldRow)
    (trouble : CellTrouble) : Type 0 where
  pub front : List OldRow
  pub row : OldRow
  pub back : List OldRow
  pub rows_are : rows ≡ front ++ row ∷ back
  pub before : AllByRecursion (IsKept files staged) front
  pub at : IsTroubleAt files staged row trouble

-- the manifest is good, and the trouble is with the first of its rows whose cell is not held
pub record IsFirstTrouble (files : Files) (trouble : CellTrouble) : Type 0 where
  pub version : Version
  pub contents : Contents
  pub old : version_number version < 3
  pub manifest : get files Manifest ≡ Some (manifest_text version contents)
  pub good : IsManifest version contents
  pub first : IsFirstRow files (staged_of contents.state) contents.rows trouble

pub data OldOpening : Type 0 where
  Migrates : (version : Version) → (state : State) → (mark : OldMark) → OldOpening
  NotOld : (version : ℕ) → OldOpening
  NotADatabase : (line : ℕ) → OldOpening
  InTrouble : (trouble : CellTrouble) → OldOpening

-- the bytes are of the present version
abbrev pub IsPresent : ℕ → List ℕ → Type 0
IsPresent version bytes = (version ≡ 3) × (version_in bytes ≡ Some version)

-- no manifest is held (line 0), or one that is not of the present version and is refused for this line
abbrev pub RefusedAt : ℕ → Option (List ℕ) → Type 0
RefusedAt line None = line ≡ 0
RefusedAt line (Some bytes) = (version_in bytes ≢ Some 3) × IsBadLine old_grammar (version_of bytes) line bytes

abbrev pub MigratesAs : Files → OldOpening → Type 0
MigratesAs files (Migrates version state mark) = OldReads files version state mark
MigratesAs files (NotOld version) = IsSomeAnd (get files Manifest) (IsPresent version)
MigratesAs files (NotADatabase line) = RefusedAt line (get files Manifest)
MigratesAs files (InTrouble trouble) = IsFirstTrouble files trouble

-- what the files open as, where the answer tells it
abbrev pub old_opening_of : EngineAnswer → Option OldOpening
old_opening_of (answer.CellPresent square level) = None
old_opening_of (answer.CellAbsent square level) = None
old_opening_of answer.DatabaseFull = None
old_opening_of (answer.NotEmpty name) = None
old_opening_of (answer.NotADatabase line) = Some (NotADatabase line)
old_opening_of (answer.Trouble trouble) = Some (InTrouble trouble)
old_opening_of (answer.NoTile tile) = None
old_opening_of (answer.TileLost name) = None
old_opening_of (answer.OldVersion version) = None
old_opening_of (answer.NotOld version) = Some (NotOld version)
old_opening_of answer.StoreFault = None
old_opening_of answer.NoMemory = None
