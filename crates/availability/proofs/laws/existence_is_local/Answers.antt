use Rattle.availability.proofs.Existing.{same_near, far_added, far_replaced}
use Rattle.availability.proofs.laws.existence_is_local.Goals as goal

pub returns-clause-same : goal.returns-clause-same
returns-clause-same c = same_near

pub returns-clause-added : goal.returns-clause-added
returns-clause-added c = far_added

pub returns-clause-replaced : goal.returns-clause-replaced
returns-clause-replaced c = far_replaced
