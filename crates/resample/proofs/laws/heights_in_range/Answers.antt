use Rattle.resample.proofs.Ranges.{grid_is, height_is}
use Rattle.resample.proofs.laws.heights_in_range.Goals as goal

pub returns-clause-height : goal.returns-clause-height
returns-clause-height c = height_is

pub returns-clause-grid : goal.returns-clause-grid
returns-clause-grid c = grid_is
