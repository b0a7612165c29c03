-- A mesh by its codes before its edges are listed.
use Rattle.std.specs.Prelude.{[]}
use Rattle.height_lattice.specs.declared.height_frame.HeightFrame.{HeightFrame}
use Rattle.mesh_codec.specs.Mesh as coded
use Rattle.tile_mesh.specs.Mesh.{Mesh}
use Rattle.tile_rule.specs.Tile.{coded_by}

-- the vertices and triangles alone
abbrev pub surface_by : HeightFrame → Mesh → coded.Mesh
surface_by frame m = record (coded_by frame m) { west = []; south = []; east = []; north = [] }
