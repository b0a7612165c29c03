use Rattle.edge_decimate.proofs.Neighbours.{near_test, all_test}
use Rattle.edge_decimate.proofs.laws.straight.Goals as goal

pub returns : goal.returns
returns c = record { one = near_test; all = all_test }
