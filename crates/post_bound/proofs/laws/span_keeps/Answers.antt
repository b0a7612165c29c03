use Rattle.post_bound.proofs.Spans.{span_keeps_law}
use Rattle.post_bound.proofs.laws.span_keeps.Goals as goal

pub returns : goal.returns
returns c = span_keeps_law
