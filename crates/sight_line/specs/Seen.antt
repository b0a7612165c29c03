-- The vertices that a point sees.
use Rattle.std.specs.Prelude.{◌≡◌, ℕ, ℤ, ◌<◌, List, All, Any, AllPairs}
use Rattle.mesh_plane.specs.Plane.{Point, point}
use Rattle.mesh_query.specs.Field.{MetreMesh, corner_at, triangles_of}
use Rattle.sight_line.specs.Sight.{IsClear}

-- sight is clear from the point p, at the height a, to the vertex of this number, at the vertex's own height
abbrev pub IsSeen : MetreMesh → Point → ℤ → ℕ → Type 0
IsSeen mesh p a k =
    let c = corner_at mesh.corners k in
    IsClear (triangles_of mesh) p a (point c.u c.v) c.h

-- of the vertices of the numbers below n, these are the seen ones, ascending
pub record AreSeen (mesh : MetreMesh) (p : Point) (a : ℤ) (n : ℕ) (seen : List ℕ) : Type 0 where
  pub each : All (λ k. (k < n) × IsSeen mesh p a k) seen
  pub every : (k : ℕ) → k < n → IsSeen mesh p a k → Any (λ j. j ≡ k) seen
  pub ascending : AllPairs (λ j k. j < k) seen
