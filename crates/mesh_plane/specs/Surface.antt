-- Heights of triangles' planes. A height is a fraction, given as two whole numbers of which the second is
-- above 0.
use Rattle.std.specs.Prelude.{◌≡◌, ℤ, pos, ◌+ℤ◌, ◌-ℤ◌, ◌*ℤ◌, ◌≤ℤ◌, ◌<ℤ◌, List, Any, unsigned_abs}
use Rattle.mesh_plane.specs.declared.corner.Tri.{Tri}
use Rattle.mesh_plane.specs.Plane.{side_of, doubled_area, TriangleHolds}

-- the height of the triangle's plane at the point (x/s, y/s) is lift_of over s times the doubled area: at
-- each
-- corner it is the corner's height, and between them it is straight
abbrev pub lift_of : Tri → ℤ → ℤ → ℤ → ℤ
lift_of t s x y =
    (t.a.h *ℤ side_of t.b t.c s x y +ℤ t.b.h *ℤ side_of t.c t.a s x y) +ℤ t.c.h *ℤ side_of t.a t.b s x y

-- the planes of both triangles have one height at the point
abbrev pub SameHeight : ℤ → ℤ → ℤ → Tri → Tri → Type 0
SameHeight s x y t u = lift_of t s x y *ℤ doubled_area u ≡ lift_of u s x y *ℤ doubled_area t

-- the plane of the triangle has the height over/under at the point
abbrev pub HasHeight : ℤ → ℤ → ℤ → ℤ → ℤ → Tri → Type 0
HasHeight s x y over under t = lift_of t s x y *ℤ under ≡ over *ℤ (s *ℤ doubled_area t)

-- the surface of a list of triangles has the height over/under at the point: some triangle holds the point,
-- and
-- its plane has that height there
pub record Surface (ts : List Tri) (s x y over under : ℤ) : Type 0 where
  pub above_zero : pos 0 <ℤ under
  pub shown : Any (λ t. TriangleHolds s x y t × HasHeight s x y over under t) ts

-- the size of a whole number
abbrev pub size_of : ℤ → ℤ
size_of z = pos (unsigned_abs z)

-- s times the doubled area, and that many times the size of the difference of the plane and a height in
-- metres
abbrev pub gap_under : Tri → ℤ → ℤ
gap_under t s = s *ℤ doubled_area t

abbrev pub gap_over : Tri → ℤ → ℤ → ℤ → ℤ → ℤ
gap_over t s x y metres = size_of (lift_of t s x y -ℤ metres *ℤ gap_under t s)

-- n is the least whole number that is at least over/under
pub record IsCeiling (over under n : ℤ) : Type 0 where
  pub enough : over ≤ℤ (n *ℤ under)
  pub least : (k : ℤ) → over ≤ℤ (k *ℤ under) → n ≤ℤ k
