use Rattle.dted_cell.proofs.Heights.{posts_are_heights}
use Rattle.dted_cell.proofs.laws.posts_are_heights.Goals as goal

pub returns : goal.returns
returns c = posts_are_heights
