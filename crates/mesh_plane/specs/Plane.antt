-- Corners, points and sides of the plane, in whole numbers of any size.
use Rattle.std.specs.Prelude.{ℤ, pos, ◌-ℤ◌, ◌*ℤ◌, ◌≤ℤ◌, ◌<ℤ◌}
use Rattle.mesh_plane.specs.declared.corner.Corner.{Corner}
use Rattle.mesh_plane.specs.declared.corner.Tri.{Tri}

-- a point of the plane, or the place of a corner
pub record Point : Type 0 where
  pub u : ℤ
  pub v : ℤ

abbrev pub point : ℤ → ℤ → Point
point u v = record { u = u; v = v }

-- where a corner lies at the scale s
abbrev pub place_at : ℤ → Corner → Point
place_at s c = point (s *ℤ c.u) (s *ℤ c.v)

-- twice the area of the triangle of a, b and the point (x/s, y/s), times s: above 0 where the point lies
-- to the left of the line from a to b, and 0 on that line
abbrev pub side_of : Corner → Corner → ℤ → ℤ → ℤ → ℤ
side_of a b s x y = (b.u -ℤ a.u) *ℤ (y -ℤ s *ℤ a.v) -ℤ (b.v -ℤ a.v) *ℤ (x -ℤ s *ℤ a.u)

-- twice the area of a triangle: above 0 where its corners run counter-clockwise
abbrev pub doubled_area : Tri → ℤ
doubled_area t = (t.b.u -ℤ t.a.u) *ℤ (t.c.v -ℤ t.a.v) -ℤ (t.b.v -ℤ t.a.v) *ℤ (t.c.u -ℤ t.a.u)

abbrev pub IsCounterClockwise : Tri → Type 0
IsCounterClockwise t = pos 0 <ℤ doubled_area t

-- the point (x/s, y/s) lies in the closed triangle
pub record TriangleHolds (s x y : ℤ) (t : Tri) : Type 0 where
  pub ab : pos 0 ≤ℤ side_of t.a t.b s x y
  pub bc : pos 0 ≤ℤ side_of t.b t.c s x y
  pub ca : pos 0 ≤ℤ side_of t.c t.a s x y

-- the point (x/s, y/s) lies inside the triangle, on none of its sides
pub record TriangleHoldsInside (s x y : ℤ) (t : Tri) : Type 0 where
  pub ab : pos 0 <ℤ side_of t.a t.b s x y
  pub bc : pos 0 <ℤ side_of t.b t.c s x y
  pub ca : pos 0 <ℤ side_of t.c t.a s x y

-- a scale is from 1 to 2^31
pub record IsScale (s : ℤ) : Type 0 where
  pub least : pos 1 ≤ℤ s
  pub greatest : s ≤ℤ pos 2147483648

-- the point (x/s, y/s) lies on the tile, of which both sides are 32767 long
pub record IsTilePoint (s x y : ℤ) : Type 0 where
  pub west : pos 0 ≤ℤ x
  pub east : x ≤ℤ (pos 32767 *ℤ s)
  pub south : pos 0 ≤ℤ y
  pub north : y ≤ℤ (pos 32767 *ℤ s)

-- the corner lies on the tile
pub record IsOnTile (c : Corner) : Type 0 where
  pub west : pos 0 ≤ℤ c.u
  pub east : c.u ≤ℤ pos 32767
  pub south : pos 0 ≤ℤ c.v
  pub north : c.v ≤ℤ pos 32767

-- all three corners lie on the tile
pub record IsTileTri (t : Tri) : Type 0 where
  pub a : IsOnTile t.a
  pub b : IsOnTile t.b
  pub c : IsOnTile t.c
