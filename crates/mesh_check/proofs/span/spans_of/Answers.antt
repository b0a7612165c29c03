-- The spans in order.
use Rattle.mesh_check.proofs.SpanLists.{sorted_spans}
use Rattle.mesh_check.proofs.span.spans_of.Goals as goal

pub returns : goal.returns
returns c = sorted_spans c.args.triangles.now c.in_ok-spans.spans.items c.sort_spans.new.spans.items
    c.in_ok-spans.ensures c.sort_spans.ensures.moved c.sort_spans.ensures.ascending
