use Rattle.std.proofs.Common.{◌≡◌, take}
use Rattle.post_bound.specs.Greatest.{greatest_of}
use Rattle.post_bound.specs.Span.{span_of_cell}
use Rattle.post_bound.proofs.span.span_bound.Given as goal

abbrev pub invariant-loop-cell : goal.invariant-loop-cell
invariant-loop-cell l = l.bound ≡ greatest_of (span_of_cell l.tile l.least l.most) (take l.cell-index l.summaries)
