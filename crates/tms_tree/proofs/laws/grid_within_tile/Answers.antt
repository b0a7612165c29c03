use Rattle.tms_tree.proofs.Places.{grid_point_in_tile}
use Rattle.tms_tree.proofs.laws.grid_within_tile.Goals as goal

pub returns : goal.returns
returns c = grid_point_in_tile
