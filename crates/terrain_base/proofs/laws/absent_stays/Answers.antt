use Rattle.terrain_base.proofs.StoreMeanings.{absent_stays}
use Rattle.terrain_base.proofs.laws.absent_stays.Goals as goal

pub returns : goal.returns
returns c = absent_stays
