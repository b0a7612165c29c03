-- What is told of the manifest that files have.
use Rattle.std.specs.Prelude.{◌≡◌, ℕ, List, Some, IsSomeAnd}
use Rattle.std.specs.FinMap.{get}
use Rattle.terrain_base.specs.declared.cell_key.CellKey.{CellKey}
use Rattle.terrain_base.specs.declared.name.Key.TheVariants.{Manifest}
use Rattle.terrain_base.specs.declared.params.Params.{Params}
use Rattle.terrain_base.specs.Step.{Files}
use Rattle.db_manifest.specs.Manifest.{ManifestState}
use Rattle.db_manifest.specs.Reading.{IsTextOf}
use Rattle.database.specs.Opening.{IsOld, RefusedAt}
use Rattle.database.specs.declared.answer.EngineAnswer.{EngineAnswer}
use Rattle.database.specs.declared.answer.EngineAnswer.TheVariants.{CellPresent, CellAbsent, DatabaseFull, NotEmpty, NotADatabase, Trouble, NoTile, TileLost, OldVersion, NotOld, StoreFault, NoMemory}

-- bytes are refused as this answer says: they are of an old version, or of none and refused for a line
abbrev pub IsRefusedAs : List ℕ → EngineAnswer → Type 0
IsRefusedAs bytes (CellPresent square level) = ⊥
IsRefusedAs bytes (CellAbsent square level) = ⊥
IsRefusedAs bytes DatabaseFull = ⊥
IsRefusedAs bytes (NotEmpty name) = ⊥
IsRefusedAs bytes (NotADatabase line) = RefusedAt line (Some bytes)
IsRefusedAs bytes (Trouble trouble) = ⊥
IsRefusedAs bytes (NoTile tile) = ⊥
IsRefusedAs bytes (TileLost name) = ⊥
IsRefusedAs bytes (OldVersion version) = IsOld version bytes
IsRefusedAs bytes (NotOld version) = ⊥
IsRefusedAs bytes StoreFault = ⊥
IsRefusedAs bytes NoMemory = Unit {0}

-- the manifest that is held is the text of this good one, and of no other
pub record IsManifestOf (files : Files) (params : Params) (mark : ManifestState) (rows : List CellKey) : Type 0 where
  pub bytes : List ℕ
  pub held : get files Manifest ≡ Some bytes
  pub is : IsTextOf bytes params mark rows

-- no good manifest is held, as the answer says, where it is no stop
abbrev pub IsNoManifest : Files → EngineAnswer → Type 0
IsNoManifest files (CellPresent square level) = ⊥
IsNoManifest files (CellAbsent square level) = ⊥
IsNoManifest files DatabaseFull = ⊥
IsNoManifest files (NotEmpty name) = ⊥
IsNoManifest files (NotADatabase line) = RefusedAt line (get files Manifest)
IsNoManifest files (Trouble trouble) = ⊥
IsNoManifest files (NoTile tile) = ⊥
IsNoManifest files (TileLost name) = ⊥
IsNoManifest files (OldVersion version) = IsSomeAnd (get files Manifest) (IsOld version)
IsNoManifest files (NotOld version) = ⊥
IsNoManifest files StoreFault = Unit {0}
IsNoManifest files NoMemory = Unit {0}
