use Rattle.terrain_base.proofs.StoreMeanings.{overwrites}
use Rattle.terrain_base.proofs.laws.overwrites.Goals as goal

pub returns : goal.returns
returns c = overwrites
