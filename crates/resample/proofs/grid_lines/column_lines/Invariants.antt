use Rattle.std.proofs.Common.{◌≡◌, ℕ, ◌<◌, ◌*◌, ◌^◌, get_or, length}
use Rattle.tms_tree.specs.Place.{place_of}
use Rattle.resample.specs.Line.{IsLine, no_line}
use Rattle.resample.proofs.grid_lines.column_lines.Given as goal

abbrev pub invariant-loop-i : goal.invariant-loop-i
invariant-loop-i l =
    (length l.lines ≡ 67)
    × ((n : ℕ) → n < l.i → IsLine (180 * (place_of l.tile n 0).p) (2 ^ l.tile.z * 32767) (get_or l.lines n no_line))
