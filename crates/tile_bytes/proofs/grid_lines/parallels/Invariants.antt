use Rattle.std.proofs.Common.{◌≡◌}
use Rattle.tile_bytes.specs.GridLines.{parallels_of}
use Rattle.tile_bytes.proofs.grid_lines.parallels.Given as goal

abbrev pub invariant-loop-j : goal.invariant-loop-j
invariant-loop-j l = l.lines.items ≡ parallels_of l.tile l.j
