use Rattle.tile_deps.proofs.Squares.{squares_are, squares_ascend}
use Rattle.tile_deps.proofs.laws.squares_are_of_cells.Goals as goal

pub returns-clause-exact : goal.returns-clause-exact
returns-clause-exact c = squares_are

pub returns-clause-ascends : goal.returns-clause-ascends
returns-clause-ascends c = squares_ascend
