use Rattle.terrain_base.proofs.StoreMeanings.{puts_one}
use Rattle.terrain_base.proofs.laws.puts_one.Goals as goal

pub returns : goal.returns
returns c = puts_one
