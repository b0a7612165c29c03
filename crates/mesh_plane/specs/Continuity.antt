-- Two planes that agree at two points.
use Rattle.std.specs.Prelude.{◌≡◌, ◌≢◌, ℤ, pos, ◌-ℤ◌, ◌*ℤ◌, ◌≤ℤ◌}
use Rattle.mesh_plane.specs.declared.corner.Tri.{Tri}
use Rattle.mesh_plane.specs.Plane.{Point}
use Rattle.mesh_plane.specs.Surface.{SameHeight}

-- the three points lie on one line
abbrev pub AreInLine : Point → Point → Point → Type 0
AreInLine p q r = (q.u -ℤ p.u) *ℤ (r.v -ℤ p.v) -ℤ (q.v -ℤ p.v) *ℤ (r.u -ℤ p.u) ≡ pos 0

-- where the planes of two triangles have one height at two different points, they have one height at each
-- point
-- of the line through them
abbrev pub ContinuityLaw : Type 0
ContinuityLaw = (t u : Tri) (s : ℤ) (p q r : Point) → pos 1 ≤ℤ s → p ≢ q
    → SameHeight s p.u p.v t u → SameHeight s q.u q.v t u → AreInLine p q r → SameHeight s r.u r.v t u
