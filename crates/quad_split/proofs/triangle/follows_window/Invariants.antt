use Rattle.std.proofs.Common.{◌≡◌, ◌+◌, ◌-◌}
use Rattle.quad_split.specs.Fits.{follows_rows, follows}
use Rattle.quad_split.proofs.triangle.follows_window.Given as goal

abbrev pub invariant-loop-j : goal.invariant-loop-j
invariant-loop-j l =
    follows_rows l.grid l.tol l.tri l.window.west l.j (l.window.east + 1 - l.window.west) (l.window.north + 1 - l.j)
    ≡ follows l.grid l.tol l.tri
