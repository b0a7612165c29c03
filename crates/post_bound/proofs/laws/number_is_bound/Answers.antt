use Rattle.post_bound.proofs.Numbers.{post_bound_law}
use Rattle.post_bound.proofs.laws.number_is_bound.Goals as goal

pub returns : goal.returns
returns c = post_bound_law
