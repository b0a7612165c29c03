use Rattle.std.specs.Prelude.{◌≡◌, ◌≤◌, max, drop}
use Rattle.availability.specs.Layer.{deepest_of}
use Rattle.availability.proofs.layer.deepest_level.Given as goal

-- this one, and those that are left
abbrev pub invariant-loop-cell : goal.invariant-loop-cell
invariant-loop-cell l = record {
  value : max l.deepest (deepest_of l.cap (drop l.cell-index l.summaries)) ≡ deepest_of l.cap l.summaries;
  within : l.deepest ≤ 14;
}
