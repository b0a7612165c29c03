use Rattle.tile_deps.proofs.TileLists.{touched_ascend, touched_exact}
use Rattle.tile_deps.proofs.laws.touched_is_whole.Goals as goal

pub returns-clause-exact : goal.returns-clause-exact
returns-clause-exact c = touched_exact

pub returns-clause-ascends : goal.returns-clause-ascends
returns-clause-ascends c = touched_ascend
