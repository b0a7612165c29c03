-- The law of heights in another unit.
use Rattle.mesh_plane.proofs.Rescales.{rescale_law}
use Rattle.mesh_plane.proofs.laws.rescale.Goals as goal

pub returns : goal.returns
returns c = rescale_law
