use Rattle.db_trial.proofs.Beginnings.{only_memory}
use Rattle.db_trial.proofs.trial.run_trial.Goals as goal

pub returns-clause-only : goal.returns-clause-only
returns-clause-only c = only_memory c.compare.result c.compare.ensures.stop c.compare.ensures.cause
