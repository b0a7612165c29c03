-- A mesh that follows the heights of its grid.
use Rattle.std.specs.Prelude.{ℕ, ◌≤◌, ℤ, pos, ◌-ℤ◌, ◌*ℤ◌, ◌≤ℤ◌, unsigned_abs, List, All}
use Rattle.mesh_plane.specs.Surface.{Surface}
use Rattle.quad_split.specs.Fits.{Follows}
use Rattle.terrain_base.specs.Grid.{line_position, height_in}
use Rattle.tile_mesh.specs.Mesh.{Mesh}
use Rattle.tile_mesh.specs.Plane.{triangles_in}

-- at each grid point the plane of every triangle that holds it is within the tolerance of the height there,
-- and so is the surface: whatever height over/under it has, it differs by at most the tolerance
pub record KeepsTolerance (grid : List ℤ) (tol : ℕ) (mesh : Mesh) : Type 0 where
  pub planes : All (Follows grid tol) (triangles_in mesh)
  pub surface : (i j : ℕ) → i ≤ 66 → j ≤ 66 → (over under : ℤ)
      → Surface (triangles_in mesh) (pos 1) (pos (line_position i)) (pos (line_position j)) over under
      → pos (unsigned_abs (over -ℤ height_in grid i j *ℤ under)) ≤ℤ (pos tol *ℤ under)
