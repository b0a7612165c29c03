use Rattle.tile_deps.proofs.TileLists.{existing_ascend, existing_count, existing_exact}
use Rattle.tile_deps.proofs.laws.existing_is_whole.Goals as goal

pub returns-clause-exact : goal.returns-clause-exact
returns-clause-exact c = existing_exact

pub returns-clause-ascends : goal.returns-clause-ascends
returns-clause-ascends c = existing_ascend

pub returns-clause-count : goal.returns-clause-count
returns-clause-count c = existing_count
