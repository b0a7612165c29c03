-- A tile touches a square where they share a point, and overlaps it where their insides do.
use Rattle.std.specs.Prelude.{ℕ, ◌+◌, ◌*◌, ◌^◌, ◌<◌, ◌==◌, ◌↔◌, Bool, ◌&&◌, ◌||◌, nat_lt, nat_le, IsTrue}
use Rattle.terrain_base.specs.declared.square.Square.{Square}
use Rattle.terrain_base.specs.declared.tile.TileId.{TileId}
use Rattle.tms_tree.specs.Degrees.{Point, RectangleHolds, RectangleHoldsInside, tile_rectangle, square_rectangle}

-- the closed rectangles share a point
pub record Touches (tile : TileId) (square : Square) : Type 0 where
  pub point : Point
  pub fraction : 0 < point.parts
  pub of_tile : RectangleHolds (tile_rectangle tile) point
  pub of_square : RectangleHolds (square_rectangle square) point

-- the open rectangles share a point
pub record Overlaps (tile : TileId) (square : Square) : Type 0 where
  pub point : Point
  pub fraction : 0 < point.parts
  pub of_tile : RectangleHoldsInside (tile_rectangle tile) point
  pub of_square : RectangleHoldsInside (square_rectangle square) point

-- ---- the same as tests

-- the closed stripe of this number at level z and the closed degree share a number of degrees
abbrev pub meets_at : ℕ → ℕ → ℕ → Bool
meets_at z stripe degree = nat_le (180 * stripe) ((degree + 1) * 2 ^ z) && nat_le (degree * 2 ^ z) (180 * (stripe + 1))

-- the open ones do
abbrev pub crosses_at : ℕ → ℕ → ℕ → Bool
crosses_at z stripe degree = nat_lt (180 * stripe) ((degree + 1) * 2 ^ z)
    && nat_lt (degree * 2 ^ z) (180 * (stripe + 1))

-- both lie on the meridian 180, from its two sides
abbrev pub wraps_at : ℕ → ℕ → ℕ → Bool
wraps_at z column lon = ((column == 0) && (lon == 359)) || ((column + 1 == 2 ^ (z + 1)) && (lon == 0))

-- they share a meridian, as they stand or at 180 degrees
abbrev pub round_meets_at : ℕ → ℕ → ℕ → Bool
round_meets_at z column lon = meets_at z column lon || wraps_at z column lon

-- whether the tile touches the square
unfoldable pub touches_of : TileId → Square → Bool
touches_of tile square = meets_at tile.z tile.y square.lat && round_meets_at tile.z tile.x square.lon

-- whether the tile overlaps the square
unfoldable pub overlaps_of : TileId → Square → Bool
overlaps_of tile square = crosses_at tile.z tile.y square.lat && crosses_at tile.z tile.x square.lon

-- ---- what the tests are held to

-- a tile touches a square, by the test, exactly where their closed rectangles share a point
abbrev pub TouchIsShared : Type 0
TouchIsShared = (tile : TileId) (square : Square) → IsTrue (touches_of tile square) ↔ Touches tile square

-- and overlaps it exactly where their open rectangles do
abbrev pub OverlapIsShared : Type 0
OverlapIsShared = (tile : TileId) (square : Square) → IsTrue (overlaps_of tile square) ↔ Overlaps tile square
