-- The edges of a tile, and the lines beside them that bound the square of its quadtree.
use Rattle.std.specs.Prelude.{ℕ}
use Rattle.mesh_plane.specs.Triangles.{Step, Outer, Inner}
use Rattle.terrain_base.specs.declared.side.Side.{Side}
use Rattle.terrain_base.specs.declared.side.Side.TheVariants.{West, South, East, North}
use Rattle.tile_mesh.specs.declared.point.GridPoint.{GridPoint}

abbrev pub grid_point : ℕ → ℕ → GridPoint
grid_point i j = record { i = i; j = j }

-- the grid points of the edge, by their index along it: eastwards or northwards, from 0 to 66
abbrev pub outer_at : Side → ℕ → GridPoint
outer_at West j = grid_point 0 j
outer_at South i = grid_point i 0
outer_at East j = grid_point 66 j
outer_at North i = grid_point i 66

-- those of the grid line beside the edge
abbrev pub inner_at : Side → ℕ → GridPoint
inner_at West j = grid_point 1 j
inner_at South i = grid_point i 1
inner_at East j = grid_point 65 j
inner_at North i = grid_point i 65

abbrev pub step_at : Side → Step ℕ → Step GridPoint
step_at side (Outer i) = Outer (outer_at side i)
step_at side (Inner i) = Inner (inner_at side i)
