use Rattle.availability.proofs.Existing.{exists_law}
use Rattle.availability.proofs.laws.existence_by_test.Goals as goal

pub returns : goal.returns
returns c = exists_law
