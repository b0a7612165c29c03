-- From a fraction at which the line is below to a crossing.
use Rattle.sight_line.proofs.Sights.{clear_law}
use Rattle.sight_line.proofs.laws.clear.Goals as goal

pub returns : goal.returns
returns c = clear_law
