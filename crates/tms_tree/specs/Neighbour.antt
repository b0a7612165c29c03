-- The tiles beside a tile, of its level.
use Rattle.std.specs.Prelude.{◌≡◌, ◌+◌, ◌%◌, ◌^◌}
use Rattle.terrain_base.specs.declared.tile.TileId.{TileId}

-- the next column; after the last one comes the first
pub record IsEastOf (tile east : TileId) : Type 0 where
  pub level : east.z ≡ tile.z
  pub row : east.y ≡ tile.y
  pub column : east.x ≡ (tile.x + 1) % 2 ^ (tile.z + 1)

-- the next row
pub record IsNorthOf (tile north : TileId) : Type 0 where
  pub level : north.z ≡ tile.z
  pub row : north.y ≡ tile.y + 1
  pub column : north.x ≡ tile.x
