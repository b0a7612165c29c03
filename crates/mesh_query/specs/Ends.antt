-- The two ends of a segment, as crossings.
use Rattle.std.specs.Prelude.{◌≡◌, pos, unsigned_abs, ◌≤◌, ◌^◌, ◌≤ℤ◌, ◌<ℤ◌, List}
use Rattle.mesh_plane.specs.declared.corner.Tri.{Tri}
use Rattle.mesh_plane.specs.Surface.{Surface}
use Rattle.mesh_query.specs.declared.crossing.Place.{Place}
use Rattle.mesh_query.specs.declared.crossing.Crossing.{Crossing}

-- the fraction 0, with the height of the surface at the place
pub record IsStart (ts : List Tri) (place : Place) (c : Crossing) : Type 0 where
  pub nought : c.over ≡ pos 0
  pub above_zero : pos 0 <ℤ c.under
  pub under_size : c.under ≤ℤ pos 2147352578
  pub height_size : unsigned_abs c.height ≤ 2 ^ 50
  pub surface : Surface ts (pos 1) place.u place.v c.height c.under
