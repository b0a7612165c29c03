-- What is stored of a tile.
use Rattle.std.specs.Prelude.{◌≡◌, ℕ, Bool, ◌⊎◌, true, false, List, Option, Some, None, IfSome, is_some}
use Rattle.std.specs.FinMap.{get}
use Rattle.terrain_base.specs.declared.name.Key.{Key}
use Rattle.terrain_base.specs.declared.name.Key.TheVariants.{Terrain, Note}
use Rattle.terrain_base.specs.declared.tile.TileId.{TileId}
use Rattle.terrain_base.specs.Step.{Files}
use Rattle.database.specs.declared.answer.EngineAnswer.{EngineAnswer}
use Rattle.database.specs.declared.answer.EngineAnswer.TheVariants as answer
use Rattle.tile_file.specs.declared.tile_files.TileFiles.{TileFiles}

-- the bytes are those under the name, where the store tells them
abbrev pub IsUnder : Option Files → Key → List ℕ → Type 0
IsUnder held name bytes = IfSome held (λ files. get files name ≡ Some bytes)

-- nothing is, where the answer says so; else it is a stop
abbrev pub IsUnheld : Option Files → Key → EngineAnswer → Type 0
IsUnheld held name (answer.CellPresent square level) = ⊥
IsUnheld held name (answer.CellAbsent square level) = ⊥
IsUnheld held name answer.DatabaseFull = ⊥
IsUnheld held name (answer.NotEmpty other) = ⊥
IsUnheld held name (answer.NotADatabase line) = ⊥
IsUnheld held name (answer.Trouble trouble) = ⊥
IsUnheld held name (answer.NoTile tile) = ⊥
IsUnheld held name (answer.TileLost other) = (other ≡ name) × IfSome held (λ files. get files name ≡ None)
IsUnheld held name (answer.OldVersion version) = ⊥
IsUnheld held name (answer.NotOld version) = ⊥
IsUnheld held name answer.StoreFault = Unit {0}
IsUnheld held name answer.NoMemory = Unit {0}

-- the tile exists, and these are its files
pub record AreStored (held : Option Files) (exists : Bool) (tile : TileId) (files : TileFiles) : Type 0 where
  pub exists_is : exists ≡ true
  pub terrain : IsUnder held (Terrain tile) files.terrain.items
  pub note : IsUnder held (Note tile) files.note.items

-- the name is that of the terrain or else of the note, and it is not held; a terrain is then held before the note
abbrev pub IsLost : Option Files → TileId → Key → Type 0
IsLost held tile name =
    ((name ≡ Terrain tile) × IfSome held (λ files. get files (Terrain tile) ≡ None))
    ⊎ ((name ≡ Note tile)
    × IfSome held (λ files. (is_some (get files (Terrain tile)) ≡ true) × (get files (Note tile) ≡ None)))

-- the tile does not exist, or it does and a file of it is not held, as the answer says; else it is a stop
abbrev pub IsNotStored : Option Files → Bool → TileId → EngineAnswer → Type 0
IsNotStored held exists tile (answer.CellPresent square level) = ⊥
IsNotStored held exists tile (answer.CellAbsent square level) = ⊥
IsNotStored held exists tile answer.DatabaseFull = ⊥
IsNotStored held exists tile (answer.NotEmpty other) = ⊥
IsNotStored held exists tile (answer.NotADatabase line) = ⊥
IsNotStored held exists tile (answer.Trouble trouble) = ⊥
IsNotStored held exists tile (answer.NoTile other) = (exists ≡ false) × (other ≡ tile)
IsNotStored held exists tile (answer.TileLost name) = (exists ≡ true) × IsLost held tile name
IsNotStored held exists tile (answer.OldVersion version) = ⊥
IsNotStored held exists tile (answer.NotOld version) = ⊥
IsNotStored held exists tile answer.StoreFault = Unit {0}
IsNotStored held exists tile answer.NoMemory = Unit {0}
