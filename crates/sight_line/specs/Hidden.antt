-- Sides of triangles that come above a line of sight.
use Rattle.std.specs.Prelude.{ℤ, ◌⊎◌}
use Rattle.mesh_plane.specs.declared.corner.Corner.{Corner}
use Rattle.mesh_plane.specs.declared.corner.Tri.{Tri}
use Rattle.mesh_plane.specs.Plane.{Point}
use Rattle.mesh_query.specs.Breaks.{AnySide}
use Rattle.mesh_query.specs.Crossing.{CrossesOut, crossing, side_height}
use Rattle.mesh_query.specs.Ratios.{IsBelow}
use Rattle.sight_line.specs.Sight.{line_at}

-- the line from p, at the height a, to q, at the height b, crosses the side from c to d, from its left to its right,
-- and is below the side there
pub record IsCutOut (p : Point) (a : ℤ) (q : Point) (b : ℤ) (c d : Corner) : Type 0 where
  pub crosses : CrossesOut p q c d
  pub below : IsBelow (line_at a b (crossing p q c d)) (side_height p q c d)

-- the same, taken one way or the other
abbrev pub IsCut : Point → ℤ → Point → ℤ → Corner → Corner → Type 0
IsCut p a q b c d = IsCutOut p a q b c d ⊎ IsCutOut p a q b d c

-- some side of the triangle comes above the line
abbrev pub Hides : Point → ℤ → Point → ℤ → Tri → Type 0
Hides p a q b = AnySide (IsCut p a q b)
