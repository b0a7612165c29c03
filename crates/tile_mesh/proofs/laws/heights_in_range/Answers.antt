use Rattle.tile_mesh.proofs.VertexHeights.{heights_in_range}
use Rattle.tile_mesh.proofs.laws.heights_in_range.Goals as goal

pub returns : goal.returns
returns c = heights_in_range
