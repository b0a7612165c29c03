use Rattle.resample.proofs.Local.{height_local, grid_local}
use Rattle.resample.proofs.laws.heights_are_local.Goals as goal

pub returns-clause-height : goal.returns-clause-height
returns-clause-height c = height_local

pub returns-clause-grid : goal.returns-clause-grid
returns-clause-grid c = grid_local
