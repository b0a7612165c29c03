-- Where the posts of cells lie in a tile.
use Rattle.std.specs.Prelude.{◌≡◌, ℕ, ℤ, pos, ◌+◌, ◌*◌, ◌^◌, ◌+ℤ◌, ◌-ℤ◌, ◌*ℤ◌, ◌<◌}
use Rattle.terrain_base.specs.declared.cell_key.CellKey.{CellKey}
use Rattle.terrain_base.specs.declared.tile.TileId.{TileId}
use Rattle.terrain_base.specs.declared.post.Post.TheVariants.{Metres}
use Rattle.terrain_base.specs.Level.{lat_step_of, lon_step_of, rows_of, columns_of}
use Rattle.cell_mosaic.specs.Cells.{Cells, post_at}
use Rattle.mesh_plane.specs.Plane.{IsTilePoint}

-- so many arc-seconds east of 180 degrees west, and north of the south pole, lies the post of a column and a row
abbrev pub seconds_east : CellKey → ℕ → ℕ
seconds_east key col = 3600 * key.square.lon + col * lon_step_of key.square key.level

abbrev pub seconds_north : CellKey → ℕ → ℕ
seconds_north key row = 3600 * key.square.lat + row * lat_step_of key.level

-- in tile units over 648000: how far east of the tile's western edge, so many turns of the globe further, and how far
-- north of its southern edge
abbrev pub across : TileId → ℕ → ℤ → ℤ
across tile east turns = ((pos east +ℤ turns *ℤ pos 1296000) *ℤ pos (2 ^ tile.z) -ℤ pos (648000 * tile.x)) *ℤ pos 32767

abbrev pub along : TileId → ℕ → ℤ
along tile north = (pos north *ℤ pos (2 ^ tile.z) -ℤ pos (648000 * tile.y)) *ℤ pos 32767

-- the key's cell has a post that is not void, so many metres high, which lies, so many turns of the globe further, at
-- the point (u/648000, v/648000) of the closed tile
pub record IsPostOf (cells : Cells) (tile : TileId) (key : CellKey) (turns u v metres : ℤ) : Type 0 where
  pub col : ℕ
  pub row : ℕ
  pub in_col : col < columns_of key.square key.level
  pub in_row : row < rows_of key.level
  pub height : post_at cells key col row ≡ Metres metres
  pub east : u ≡ across tile (seconds_east key col) turns
  pub north : v ≡ along tile (seconds_north key row)
  pub inside : IsTilePoint (pos 648000) u v

-- some cell has one there; longitudes modulo 360 degrees
pub record HasPostAt (cells : Cells) (tile : TileId) (u v metres : ℤ) : Type 0 where
  pub key : CellKey
  pub turns : ℤ
  pub post : IsPostOf cells tile key turns u v metres
