-- The law of the merge.
use Rattle.tile_mesh.proofs.MergeOrder.{merge_law}
use Rattle.tile_mesh.proofs.laws.merging.Goals as goal

pub returns : goal.returns
returns c = merge_law
