use Rattle.std.proofs.Common.{◌≡◌}
use Rattle.tile_bytes.specs.GridLines.{meridians_of}
use Rattle.tile_bytes.proofs.grid_lines.meridians.Given as goal

abbrev pub invariant-loop-i : goal.invariant-loop-i
invariant-loop-i l = l.lines.items ≡ meridians_of l.tile l.i
