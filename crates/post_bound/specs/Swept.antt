-- Meshes that can be swept.
use Rattle.std.specs.Prelude.{length, All}
use Rattle.tile_mesh.specs.Mesh.{Mesh}
use Rattle.tile_mesh.specs.MeshNumbers.{IsVertexOnGrid}
use Rattle.tile_mesh.specs.Numbering.{ArePoints}
use Rattle.tile_mesh.specs.Plane.{triangles_in}
use Rattle.lattice_sweep.specs.Plane.{IsTerrainTri}

-- the vertices lie on the grid, the triangles are of vertices, and counter-clockwise on the tile with heights from
-- -16000 to 16000 metres
pub record IsSwept (mesh : Mesh) : Type 0 where
  pub vertices : All IsVertexOnGrid mesh.points
  pub numbers : All (ArePoints (length mesh.points)) mesh.triangles
  pub triangles : All IsTerrainTri (triangles_in mesh)
