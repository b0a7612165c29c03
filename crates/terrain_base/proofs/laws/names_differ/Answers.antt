use Rattle.terrain_base.proofs.NameOrder.{same_text}
use Rattle.terrain_base.proofs.laws.names_differ.Goals as goal

pub returns : goal.returns
returns c = same_text
