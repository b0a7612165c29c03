use Rattle.edge_decimate.proofs.WholeEdges.{near_law}
use Rattle.edge_decimate.proofs.laws.near.Goals as goal

pub returns : goal.returns
returns c = near_law
