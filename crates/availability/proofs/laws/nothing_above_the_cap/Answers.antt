use Rattle.availability.proofs.Existing.{above_cap}
use Rattle.availability.proofs.laws.nothing_above_the_cap.Goals as goal

pub returns : goal.returns
returns c = above_cap
