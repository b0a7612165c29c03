-- What holds of the surface of triangles, and of the plane of each.
use Rattle.std.specs.Prelude.{◌≡◌, ◌↔◌, ℤ, pos, ◌+ℤ◌, ◌-ℤ◌, ◌*ℤ◌, ◌≤ℤ◌, List, Contains}
use Rattle.mesh_plane.specs.declared.corner.Tri.{Tri}
use Rattle.mesh_plane.specs.Plane.{Point, point, IsCounterClockwise, TriangleHolds, IsTilePoint}
use Rattle.mesh_plane.specs.Fan.{Rect, grown, InRect}
use Rattle.mesh_plane.specs.Surface.{lift_of, size_of, gap_over, gap_under, Surface}
use Rattle.mesh_plane.specs.Cover.{Covers}

-- the heights of all three corners are from least to greatest
pub record AreHeightsWithin (least greatest : ℤ) (t : Tri) : Type 0 where
  pub a : (least ≤ℤ t.a.h) × (t.a.h ≤ℤ greatest)
  pub b : (least ≤ℤ t.b.h) × (t.b.h ≤ℤ greatest)
  pub c : (least ≤ℤ t.c.h) × (t.c.h ≤ℤ greatest)

-- the surface differs from a height in metres by at most n at the point (x/s, y/s)
abbrev pub IsSurfaceNear : List Tri → ℤ → ℤ → ℤ → ℤ → ℤ → Type 0
IsSurfaceNear ts s x y metres n = (over under : ℤ) → Surface ts s x y over under
    → size_of (over -ℤ metres *ℤ under) ≤ℤ (n *ℤ under)

-- all three corners lie in the closed rectangle
pub record IsTriIn (r : Rect) (t : Tri) : Type 0 where
  pub a : InRect r (point t.a.u t.a.v)
  pub b : InRect r (point t.b.u t.b.v)
  pub c : InRect r (point t.c.u t.c.v)

-- n/d of the way from p to q, of two points at a scale, at d times that scale
abbrev pub part_of : ℤ → ℤ → Point → Point → Point
part_of d n p q = point ((d -ℤ n) *ℤ p.u +ℤ n *ℤ q.u) ((d -ℤ n) *ℤ p.v +ℤ n *ℤ q.v)

-- where triangles cover the tile, their surface has a height at each of its points, and no two different
-- ones; a finer scale names the same point and the same height; and a plane's height at a point that the
-- triangle holds is from the least to the greatest of its corners'
pub record SurfaceLaw : Type 0 where
  pub some : (ts : List Tri) (s x y : ℤ) → Covers ts → pos 1 ≤ℤ s → IsTilePoint s x y
      → (over : ℤ) × (under : ℤ) × Surface ts s x y over under
  pub one : (ts : List Tri) (s x y m n k l : ℤ) → Covers ts → pos 1 ≤ℤ s → Surface ts s x y m n
      → Surface ts s x y k l → m *ℤ l ≡ k *ℤ n
  pub scale : (ts : List Tri) (s k x y over under : ℤ) → pos 1 ≤ℤ k
      → Surface ts s x y over under ↔ Surface ts (k *ℤ s) (k *ℤ x) (k *ℤ y) over under
  pub between : (t : Tri) (s x y least greatest : ℤ) → AreHeightsWithin least greatest t → TriangleHolds s x y t
      → ((least *ℤ gap_under t s) ≤ℤ lift_of t s x y) × (lift_of t s x y ≤ℤ (greatest *ℤ gap_under t s))
  pub gap : (ts : List Tri) (t : Tri) (s x y metres n : ℤ) → Covers ts → pos 1 ≤ℤ s → Contains ts t
      → TriangleHolds s x y t → IsSurfaceNear ts s x y metres n ↔ (gap_over t s x y metres ≤ℤ (n *ℤ gap_under t s))
  pub straight : (t : Tri) (s d n : ℤ) (p q : Point) → let r = part_of d n p q in
      lift_of t (d *ℤ s) r.u r.v ≡ (d -ℤ n) *ℤ lift_of t s p.u p.v +ℤ n *ℤ lift_of t s q.u q.v
  pub convex : (t : Tri) (s d n : ℤ) (p q : Point) → pos 0 ≤ℤ n → n ≤ℤ d → TriangleHolds s p.u p.v t
      → TriangleHolds s q.u q.v t → let r = part_of d n p q in TriangleHolds (d *ℤ s) r.u r.v t
  pub box : (r : Rect) (t : Tri) (s x y : ℤ) → IsCounterClockwise t → IsTriIn r t → TriangleHolds s x y t
      → InRect (grown s r) (point x y)
