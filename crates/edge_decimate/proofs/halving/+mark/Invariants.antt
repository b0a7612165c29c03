use Rattle.std.proofs.Common.{◌-◌}
use Rattle.edge_decimate.proofs.halving.+mark.Given as goal

abbrev pub decreases-mark : goal.decreases-mark
decreases-mark l = l.b - l.a
