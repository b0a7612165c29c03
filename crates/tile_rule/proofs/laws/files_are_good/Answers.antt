use Rattle.tile_rule.proofs.Tiles.{good_law}
use Rattle.tile_rule.proofs.laws.files_are_good.Goals as goal

pub returns : goal.returns
returns c = good_law c.bound_keeps.ensures
