-- What a program finds where a segment crosses a side.
use Rattle.std.specs.Prelude.{◌≡◌, pos, ◌≤ℤ◌, ◌≤◌, ◌^◌, unsigned_abs}
use Rattle.mesh_plane.specs.declared.corner.Corner.{Corner}
use Rattle.mesh_plane.specs.Plane.{Point, point}
use Rattle.mesh_query.specs.declared.crossing.Crossing.{Crossing}
use Rattle.mesh_query.specs.declared.crossing.Place.{Place}
use Rattle.mesh_query.specs.Ratios.{ratio}
use Rattle.mesh_query.specs.Crossing.{CrossesOut, crossing, side_height}

abbrev pub at_place : Place → Point
at_place p = point p.u p.v

-- the segment crosses the side from a to b, from its left, at this fraction and height
pub record IsCrossing (p q : Point) (a b : Corner) (c : Crossing) : Type 0 where
  pub crosses : CrossesOut p q a b
  pub at : ratio c.over c.under ≡ crossing p q a b
  pub metres : ratio c.height c.under ≡ side_height p q a b
  pub under_size : c.under ≤ℤ pos 2147352578
  pub height_size : unsigned_abs c.height ≤ 2 ^ 49
