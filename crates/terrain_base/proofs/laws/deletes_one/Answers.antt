use Rattle.terrain_base.proofs.StoreMeanings.{deletes_one}
use Rattle.terrain_base.proofs.laws.deletes_one.Goals as goal

pub returns : goal.returns
returns c = deletes_one
