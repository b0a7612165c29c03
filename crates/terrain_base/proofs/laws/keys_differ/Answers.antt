use Rattle.terrain_base.proofs.KeyOrder.{keys_exact}
use Rattle.terrain_base.proofs.laws.keys_differ.Goals as goal

pub returns : goal.returns
returns c = keys_exact
