-- The law of the edges.
use Rattle.tile_mesh.proofs.EdgeVertices.{edges_are_kept}
use Rattle.tile_mesh.proofs.laws.edges.Goals as goal

pub returns : goal.returns
returns c = edges_are_kept
