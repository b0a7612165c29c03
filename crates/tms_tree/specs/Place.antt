-- The places of grid points.
use Rattle.std.specs.Prelude.{◌≡◌, ℕ, ◌+◌, ◌*◌, ◌%◌, ◌^◌, ◌<◌, ◌≤◌}
use Rattle.terrain_base.specs.declared.tile.TileId.{TileId}
use Rattle.terrain_base.specs.Grid.{line_position}
use Rattle.tms_tree.specs.declared.place.Place.{Place}
use Rattle.tms_tree.specs.Degrees.{Point}

-- the numbers of a place are those of a point between the poles, at most one turn from 180 degrees west
pub record IsPlace (place : Place) : Type 0 where
  pub positive : 0 < place.d
  pub fine : place.d ≤ 2 ^ 29
  pub turn : place.p ≤ 2 * place.d
  pub pole : place.q ≤ place.d

-- the point of a place: 180*p/d degrees east of 180 degrees west, 180*q/d degrees north of the south pole
abbrev pub point_of : Place → Point
point_of place = record { east = 180 * place.p; north = 180 * place.q; parts = place.d }

-- the place of the tile's grid point in column i and row j, whose grid lines stand at u and v of 32767
-- (quantized-mesh-1.0, u and v)
abbrev pub place_of : TileId → ℕ → ℕ → Place
place_of tile i j = record {
  p = tile.x * 32767 + line_position i;
  q = tile.y * 32767 + line_position j;
  d = 2 ^ tile.z * 32767;
}

-- the same numbers, but for a whole turn of longitude
pub record SamePlace (a b : Place) : Type 0 where
  pub units : a.d ≡ b.d
  pub latitude : a.q ≡ b.q
  pub longitude : a.p % (2 * a.d) ≡ b.p % (2 * b.d)
