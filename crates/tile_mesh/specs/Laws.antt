-- What holds of the mesh of each grid at each level.
use Rattle.std.specs.Prelude.{◌≡◌, ℕ, ℤ, List}
use Rattle.terrain_base.specs.Grid.{tolerance_of}
use Rattle.mesh_plane.specs.Cover.{Covers}
use Rattle.terrain_base.specs.declared.side.Side.{Side}
use Rattle.tile_mesh.specs.Mesh.{mesh_of_grid}
use Rattle.tile_mesh.specs.Plane.{edge_vertices, kept_vertices, triangles_in}
use Rattle.tile_mesh.specs.Tolerance.{KeepsTolerance}

abbrev pub CoverLaw : Type 0
CoverLaw = (grid : List ℤ) (z : ℕ) → Covers (triangles_in (mesh_of_grid grid z))

abbrev pub EdgeLaw : Type 0
EdgeLaw = (grid : List ℤ) (z : ℕ) (side : Side)
    → edge_vertices (mesh_of_grid grid z) side ≡ kept_vertices grid (tolerance_of z) side

abbrev pub ToleranceLaw : Type 0
ToleranceLaw = (grid : List ℤ) (z : ℕ) → KeepsTolerance grid (tolerance_of z) (mesh_of_grid grid z)
