use Rattle.availability.proofs.Existing.{exists_at_tile}
use Rattle.availability.proofs.laws.existence_by_numbers.Goals as goal

pub returns-clause-tile : goal.returns-clause-tile
returns-clause-tile c = exists_at_tile
