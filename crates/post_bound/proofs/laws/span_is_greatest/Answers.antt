use Rattle.post_bound.proofs.Spans.{span_bound_law}
use Rattle.post_bound.proofs.laws.span_is_greatest.Goals as goal

pub returns : goal.returns
returns c = span_bound_law
