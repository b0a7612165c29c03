use Rattle.std.proofs.Common.{◌≡◌, suc}
use Rattle.edge_decimate.specs.KeptLine.{first_from}
use Rattle.edge_decimate.proofs.kept_line.KeptLine.after.Given as goal

abbrev pub invariant-loop-k : goal.invariant-loop-k
invariant-loop-k l = first_from l.k l.self ≡ first_from (suc l.fn.i) l.self
