use Rattle.tile_mesh.proofs.KeptLists.{kept_to_66}
use Rattle.tile_mesh.proofs.kept.kept_indexes.Goals as goal

pub listed-requires : goal.listed-requires
listed-requires c = rw c.kept-line.ensures (kept_to_66 c.heights_along.result c.args.tol)
