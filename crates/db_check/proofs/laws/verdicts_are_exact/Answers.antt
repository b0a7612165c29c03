use Rattle.db_check.proofs.Exactness.{one_verdict}
use Rattle.db_check.proofs.laws.verdicts_are_exact.Goals as goal

pub returns : goal.returns
returns c = one_verdict
