-- The numbers of vertices in the mesh of each grid.
use Rattle.std.specs.Prelude.{◌≡◌, ℕ, ◌<◌, ◌≤◌, ℤ, List, length, All}
use Rattle.terrain_base.specs.Grid.{height_in}
use Rattle.terrain_base.specs.Height.{IsHeight}
use Rattle.terrain_base.specs.FirstUse.{IsByFirstUse, corners}
use Rattle.terrain_base.specs.declared.side.Side.{Side}
use Rattle.tile_mesh.specs.declared.point.MeshPoint.{MeshPoint}
use Rattle.tile_mesh.specs.Mesh.{Mesh, edge_of, mesh_of_grid, IsMeshAt}
use Rattle.tile_mesh.specs.Numbering.{ArePoints}

-- a vertex lies on the grid
pub record IsVertexOnGrid (p : MeshPoint) : Type 0 where
  pub column : p.i ≤ 66
  pub row : p.j ≤ 66

-- from 1 to 4489 vertices, all on the grid; numbers in triangles and in the edges' lists are of vertices; and
-- the vertices are numbered by first use in the triangles
pub record IsNumbered (mesh : Mesh) : Type 0 where
  pub on_grid : All IsVertexOnGrid mesh.points
  pub some : 0 < length mesh.points
  pub few : length mesh.points ≤ 4489
  pub triangles : All (ArePoints (length mesh.points)) mesh.triangles
  pub edges : (side : Side) → All (λ n. n < length mesh.points) (edge_of mesh side)
  pub short : (side : Side) → length (edge_of mesh side) ≤ 67
  pub by_first_use : IsByFirstUse (length mesh.points) (corners mesh.triangles)

abbrev pub NumberedLaw : Type 0
NumberedLaw = (grid : List ℤ) (z : ℕ) → IsNumbered (mesh_of_grid grid z)

-- at most 130 triangles in each strip, and 2 for each of the 64 by 64 squares of the quadtree
abbrev pub FewTrianglesLaw : Type 0
FewTrianglesLaw = (grid : List ℤ) (z : ℕ) → length (mesh_of_grid grid z).triangles ≤ 8712

-- each vertex has the height of its grid point
abbrev pub VertexHeightLaw : Type 0
VertexHeightLaw = (grid : List ℤ) (z : ℕ) → All (λ p. p.metres ≡ height_in grid p.i p.j) (mesh_of_grid grid z).points

-- so it is in the range of heights, where the mesh is that of a grid in range
abbrev pub HeightRangeLaw : Type 0
HeightRangeLaw = (z : ℕ) (mesh : Mesh) → IsMeshAt z mesh → All (λ p. IsHeight p.metres) mesh.points
