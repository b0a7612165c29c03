use Rattle.heightmap_out.proofs.Numbers.{stands_for_heights}
use Rattle.heightmap_out.proofs.laws.samples_stand_for_heights.Goals as goal

pub returns : goal.returns
returns c = stands_for_heights
