use Rattle.tile_mesh.proofs.VertexHeights.{vertex_heights}
use Rattle.tile_mesh.proofs.laws.vertex_heights.Goals as goal

pub returns : goal.returns
returns c = vertex_heights
