use Rattle.post_bound.proofs.Spans.{bound_keeps_law}
use Rattle.post_bound.proofs.laws.bound_keeps.Goals as goal

pub returns : goal.returns
returns c = bound_keeps_law
