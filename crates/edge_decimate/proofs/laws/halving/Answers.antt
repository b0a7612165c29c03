use Rattle.edge_decimate.proofs.WholeEdges.{kept_part, kept_edge, kept_enough}
use Rattle.edge_decimate.proofs.laws.halving.Goals as goal

pub returns : goal.returns
returns c = record { part = kept_part; edge = kept_edge; enough = kept_enough }
