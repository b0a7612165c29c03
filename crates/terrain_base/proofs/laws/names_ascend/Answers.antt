use Rattle.terrain_base.proofs.StoreMeanings.{names_ascend}
use Rattle.terrain_base.proofs.laws.names_ascend.Goals as goal

pub returns : goal.returns
returns c = names_ascend
