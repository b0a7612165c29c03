-- The spans so far.
use Rattle.mesh_check.specs.Spans.{AreFirstSpans}
use Rattle.mesh_check.proofs.span.first_spans.Given as goal

abbrev pub invariant-loop-number : goal.invariant-loop-number
invariant-loop-number l = AreFirstSpans l.triangles l.number l.spans.items
