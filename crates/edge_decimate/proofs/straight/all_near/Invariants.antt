use Rattle.std.proofs.Common.{◌≡◌, ◌-◌}
use Rattle.edge_decimate.specs.Straight.{near_from, are_near}
use Rattle.edge_decimate.proofs.straight.all_near.Given as goal

abbrev pub invariant-loop-i : goal.invariant-loop-i
invariant-loop-i l = near_from l.line l.tol l.a l.b l.i (l.b - l.i) ≡ are_near l.line l.tol l.a l.b
