-- Points and rectangles in degrees: east of 180 degrees west, and north of the south pole.
use Rattle.std.specs.Prelude.{ℕ, ◌+◌, ◌*◌, ◌^◌, ◌<◌, ◌≤◌}
use Rattle.terrain_base.specs.declared.square.Square.{Square}
use Rattle.terrain_base.specs.declared.tile.TileId.{TileId}

-- the point east/parts degrees east of 180 degrees west and north/parts degrees north of the south pole
pub record Point : Type 0 where
  pub east : ℕ
  pub north : ℕ
  pub parts : ℕ

-- from low/parts to high/parts degrees
pub record Span : Type 0 where
  pub low : ℕ
  pub high : ℕ
  pub parts : ℕ

-- what lies between two meridians and two parallels
pub record Rectangle : Type 0 where
  pub longitudes : Span
  pub latitudes : Span

-- the stripe of this number, of stripes that are 180/2^z degrees wide
abbrev pub stripe_span : ℕ → ℕ → Span
stripe_span z stripe = record { low = 180 * stripe; high = 180 * (stripe + 1); parts = 2 ^ z }

abbrev pub degree_span : ℕ → Span
degree_span degree = record { low = degree; high = degree + 1; parts = 1 }

-- a tile has 180/2^z degrees on each side; column 0 begins 180 degrees west, row 0 at the south pole
-- (TMS 1.0.0, global-geodetic)
abbrev pub tile_rectangle : TileId → Rectangle
tile_rectangle tile = record { longitudes = stripe_span tile.z tile.x; latitudes = stripe_span tile.z tile.y }

abbrev pub square_rectangle : Square → Rectangle
square_rectangle square = record { longitudes = degree_span square.lon; latitudes = degree_span square.lat }

-- the span, so many whole turns further
abbrev pub turned : ℕ → Span → Span
turned turns span = record {
  low = span.low + 360 * turns * span.parts;
  high = span.high + 360 * turns * span.parts;
  parts = span.parts;
}

-- n/parts degrees lie in the closed span
pub record IsWithin (n parts : ℕ) (span : Span) : Type 0 where
  pub above : span.low * parts ≤ n * span.parts
  pub below : n * span.parts ≤ span.high * parts

-- n/parts degrees lie in the open span
pub record IsInside (n parts : ℕ) (span : Span) : Type 0 where
  pub above : span.low * parts < n * span.parts
  pub below : n * span.parts < span.high * parts

-- the closed rectangle has the point, whole turns of longitude left aside
pub record RectangleHolds (rectangle : Rectangle) (point : Point) : Type 0 where
  pub turns : ℕ
  pub point_turns : ℕ
  pub longitude : IsWithin (point.east + 360 * point_turns * point.parts) point.parts
      (turned turns rectangle.longitudes)
  pub latitude : IsWithin point.north point.parts rectangle.latitudes

-- the open rectangle has the point, whole turns of longitude left aside
pub record RectangleHoldsInside (rectangle : Rectangle) (point : Point) : Type 0 where
  pub turns : ℕ
  pub point_turns : ℕ
  pub longitude : IsInside (point.east + 360 * point_turns * point.parts) point.parts
      (turned turns rectangle.longitudes)
  pub latitude : IsInside point.north point.parts rectangle.latitudes
