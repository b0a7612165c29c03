use Rattle.db_migrate.proofs.Bringing.{fronts, ends}
use Rattle.db_migrate.proofs.laws.migrating_brings.Goals as goal

pub returns : goal.returns
returns c = λ files v s mark reads. (fronts files v s mark reads, ends files v s mark reads)
