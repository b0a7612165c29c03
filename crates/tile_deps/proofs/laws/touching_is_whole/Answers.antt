use Rattle.tile_deps.proofs.Squares.{touching_are, touching_ascend}
use Rattle.tile_deps.proofs.laws.touching_is_whole.Goals as goal

pub returns-clause-exact : goal.returns-clause-exact
returns-clause-exact c = touching_are

pub returns-clause-ascends : goal.returns-clause-ascends
returns-clause-ascends c = touching_ascend
