use Rattle.availability.proofs.Deepest.{same_text}
use Rattle.availability.proofs.laws.layer_tells_the_tiles.Goals as goal

pub returns : goal.returns
returns c = same_text
