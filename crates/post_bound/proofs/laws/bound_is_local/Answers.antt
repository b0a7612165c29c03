use Rattle.post_bound.proofs.Local.{bound_is_local}
use Rattle.post_bound.proofs.laws.bound_is_local.Goals as goal

pub returns : goal.returns
returns c = bound_is_local
