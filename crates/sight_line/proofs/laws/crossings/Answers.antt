-- From a fraction at which the line is below to a crossing.
use Rattle.sight_line.proofs.Sights.{sight_law}
use Rattle.sight_line.proofs.laws.crossings.Goals as goal

pub returns : goal.returns
returns c = sight_law
