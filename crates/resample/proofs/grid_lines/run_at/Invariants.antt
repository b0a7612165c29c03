use Rattle.std.proofs.Common.{◌≡◌, ℕ, ◌-◌, ◌<◌, ◌≤◌, get_or}
use Rattle.resample.specs.Line.{no_line}
use Rattle.resample.proofs.grid_lines.run_at.Given as goal

abbrev pub invariant-loop-end : goal.invariant-loop-end
invariant-loop-end l =
    (l.first < l.end) × (l.end ≤ 67) × ((k : ℕ) → l.first ≤ k → k < l.end → (get_or l.lines k no_line).degrees ≡ l.degrees)

abbrev pub decreases-loop-end : goal.decreases-loop-end
decreases-loop-end l = 67 - l.end
