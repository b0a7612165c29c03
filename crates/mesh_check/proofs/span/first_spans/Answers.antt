-- One span more.
use Rattle.std.proofs.Common.{rules, subst}
use Rattle.mesh_plane.specs.declared.corner.Tri.{Tri}
use Rattle.mesh_check.specs.Spans.{IsSpan}
use Rattle.mesh_check.proofs.ListFacts.{any_default}
use Rattle.mesh_check.proofs.SpanLists.{first_on}
use Rattle.mesh_check.proofs.span.first_spans.Goals as goal

pub loop-number-preserved : goal.loop-number-preserved
loop-number-preserved c =
    first_on c.args.triangles.now c.loop-number.number c.loop-number.spans.items c.push.new.self.items c.span_of.result
    c.loop-number.invariant c.loop-number-test.true
    (search rules) (λ d. subst (λ (t : Tri). IsSpan t c.span_of.result)
    (any_default c.args.triangles.now c.loop-number.number _ d c.loop-number-test.true) c.span_of.ensures.is)
    c.in_ok-push.ensures.items
