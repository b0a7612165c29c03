use Rattle.std.proofs.Common.{◌≡◌, ℕ, ◌<◌, ◌*◌, ◌^◌, get_or, length}
use Rattle.tms_tree.specs.Place.{place_of}
use Rattle.resample.specs.Line.{IsLine, no_line}
use Rattle.resample.proofs.grid_lines.row_lines.Given as goal

abbrev pub invariant-loop-j : goal.invariant-loop-j
invariant-loop-j l =
    (length l.lines ≡ 67)
    × ((n : ℕ) → n < l.j → IsLine (180 * (place_of l.tile 0 n).q) (2 ^ l.tile.z * 32767) (get_or l.lines n no_line))
