use Rattle.std.proofs.Common.{◌≡◌, ◌+◌, ◌-◌}
use Rattle.quad_split.specs.Fits.{follows_row}
use Rattle.quad_split.proofs.triangle.follows_points.Given as goal

abbrev pub invariant-loop-k : goal.invariant-loop-k
invariant-loop-k l =
    follows_row l.grid l.tol l.tri l.k l.j ((l.i + l.n) - l.k) ≡ follows_row l.grid l.tol l.tri l.i l.j l.n
