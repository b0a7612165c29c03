use Rattle.resample.proofs.Grids.{grid_has_heights}
use Rattle.resample.proofs.laws.grid_has_heights.Goals as goal

pub returns : goal.returns
returns c = grid_has_heights
