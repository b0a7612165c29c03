use Rattle.db_check.proofs.Exactness.{good_exact}
use Rattle.db_check.proofs.laws.good_is_exact.Goals as goal

pub returns : goal.returns
returns c = good_exact
