use Rattle.db_check.proofs.Exactness.{found_least}
use Rattle.db_check.proofs.laws.found_is_least.Goals as goal

pub returns : goal.returns
returns c = found_least
