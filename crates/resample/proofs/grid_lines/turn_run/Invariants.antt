use Rattle.std.proofs.Common.{◌≡◌, ℕ, ◌<◌, length, get_or}
use Rattle.resample.specs.Line.{AreLines, no_line}
use Rattle.resample.proofs.grid_lines.turn_run.Given as goal

abbrev pub invariant-loop-k : goal.invariant-loop-k
invariant-loop-k l =
    (length l.lines ≡ 67)
    × ((units : ℕ → ℕ) → AreLines units l.d l.fn.lines → AreLines units l.d l.lines)
    × ((k : ℕ) → k < 67 → (get_or l.lines k no_line).rest < l.d)
