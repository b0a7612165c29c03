-- Questions about the surface of a stored tile, and the tile in which a place is looked up (TMS, global-geodetic
-- profile).
use Rattle.std.specs.Prelude.{◌≡◌, ◌≢◌, ℕ, ℤ, pos, ◌-◌, ◌*◌, ◌/◌, ◌^◌, ◌≤◌, ◌-ℤ◌, ◌*ℤ◌, min}
use Rattle.terrain_base.specs.declared.tile.TileId.{TileId}
use Rattle.mesh_plane.specs.Plane.{Point, point}
use Rattle.mesh_query.specs.declared.spot.Spot.{Spot}
use Rattle.mesh_query.specs.Way.{place, IsSpot}
use Rattle.sight_line.specs.Line.{IsEye}
use Rattle.tile_query.specs.declared.question.Question.{Question}
use Rattle.tile_query.specs.declared.question.Question.TheVariants.{Height, Profile, Sight, View}

-- A place is so many whole arc-seconds east of 180 degrees west and north of the south pole. Of a level z, whose tiles
-- are 648000/2^z arc-seconds long on each side, it is looked up in this tile. The north pole lies in the last row.
pub record IsTileOfPlace (tile : TileId) (east north : ℕ) : Type 0 where
  pub column : tile.x ≡ (east * 2 ^ tile.z) / 648000
  pub row : tile.y ≡ min ((north * 2 ^ tile.z) / 648000) (2 ^ tile.z - 1)

-- a place on the Earth, and the tile in which it is looked up
pub record IsGoodPlace (tile : TileId) (east north : ℕ) : Type 0 where
  pub east_in_range : east ≤ 1295999
  pub north_in_range : north ≤ 648000
  pub tile_is : IsTileOfPlace tile east north

-- how far so many arc-seconds are beyond the border of a column or row, 648000 times, in codes of u or v, of which a
-- tile's side has 32767
abbrev pub units_beyond : ℕ → ℕ → ℕ → ℤ
units_beyond z stripe seconds = (pos (seconds * 2 ^ z) -ℤ pos (648000 * stripe)) *ℤ pos 32767

-- where a place lies in a tile, at the scale 648000
abbrev pub point_in : TileId → ℕ → ℕ → Point
point_in tile east north = point (units_beyond tile.z tile.x east) (units_beyond tile.z tile.y north)

-- two different spots of the tile
pub record AreEnds (from to : Spot) : Type 0 where
  pub from_is : IsSpot from
  pub to_is : IsSpot to
  pub apart : place from ≢ place to

-- places, spots and heights are within their ranges, and spots that must differ do
abbrev pub IsGoodQuestion : TileId → Question → Type 0
IsGoodQuestion tile (Height east north) = IsGoodPlace tile east north
IsGoodQuestion tile (Profile from to) = AreEnds from to
IsGoodQuestion tile (Sight from to) = IsEye from × IsEye to × (place from.spot ≢ place to.spot)
IsGoodQuestion tile (View eye) = IsEye eye
