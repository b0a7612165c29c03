-- The spans so far.
use Rattle.mesh_check.specs.Spans.{AreTaken}
use Rattle.mesh_check.proofs.active.take_up.Given as goal

abbrev pub invariant-loop-next : goal.invariant-loop-next
invariant-loop-next l = AreTaken l.spans l.fn.active l.active l.low l.next
