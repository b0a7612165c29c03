-- What a map of files opens as: a state with what is under way, or the reason why it opens as none.
use Rattle.std.specs.Prelude.{◌≡◌, ℕ, ◌<◌, List, Option, Some, None, IsSomeAnd, slice_get}
use Rattle.std.specs.FinMap.{get}
use Rattle.terrain_base.specs.declared.params.Params.{Params}
use Rattle.terrain_base.specs.declared.cell_key.CellKey.{CellKey}
use Rattle.terrain_base.specs.declared.name.Key.TheVariants.{Manifest}
use Rattle.terrain_base.specs.Step.{Files}
use Rattle.dted_cell.specs.declared.trouble.CellTrouble.{CellTrouble}
use Rattle.dted_cell.specs.Trouble.{name_of, Shows}
use Rattle.cell_mosaic.specs.Cells.{IsSoundCell}
use Rattle.db_manifest.specs.Manifest.{ManifestState}
use Rattle.db_manifest.specs.Manifest.{manifest_text, IsManifest}
use Rattle.manifest_lines.specs.Version.{version_in}
use Rattle.db_manifest.specs.Manifest.{IsBadLine}
use Rattle.database.specs.State.{State, ReadsAs, kept_under}

-- a cell of the key is held where it is kept
abbrev pub IsKept : Files → ManifestState → CellKey → Type 0
IsKept files mark key = IsSomeAnd (get files (kept_under mark key)) (IsSoundCell key)

-- the manifest is good, the cells of the rows before this one are held, and this one's is not
pub record IsFirstTrouble (files : Files) (trouble : CellTrouble) : Type 0 where
  pub params : Params
  pub mark : ManifestState
  pub rows : List CellKey
  pub manifest : get files Manifest ≡ Some (manifest_text params mark rows)
  pub is_good : IsManifest params mark rows
  pub place : ℕ
  pub row : CellKey
  pub row_is : slice_get rows place ≡ Some row
  pub before : (n : ℕ) (key : CellKey) → n < place → slice_get rows n ≡ Some key → IsKept files mark key
  pub name_is : name_of trouble ≡ kept_under mark row
  pub shown : Shows row files trouble

pub data Opening : Type 0 where
  Opens : (state : State) → (mark : ManifestState) → Opening
  OldVersion : (version : ℕ) → Opening
  NotADatabase : (line : ℕ) → Opening
  InTrouble : (trouble : CellTrouble) → Opening

-- the bytes are of a version before this one
abbrev pub IsOld : ℕ → List ℕ → Type 0
IsOld version bytes = (version < 3) × (version_in bytes ≡ Some version)

-- no manifest is held (line 0), or one that is of no old version and is refused for this line
abbrev pub RefusedAt : ℕ → Option (List ℕ) → Type 0
RefusedAt line None = line ≡ 0
RefusedAt line (Some bytes) = ((version : ℕ) → ¬ (IsOld version bytes)) × IsBadLine line bytes

-- each map of files opens in at most one way
abbrev pub OpensAs : Files → Opening → Type 0
OpensAs files (Opens state mark) = ReadsAs files state mark
OpensAs files (OldVersion version) = IsSomeAnd (get files Manifest) (IsOld version)
OpensAs files (NotADatabase line) = RefusedAt line (get files Manifest)
OpensAs files (InTrouble trouble) = IsFirstTrouble files trouble
