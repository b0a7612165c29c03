-- The law of continuity.
use Rattle.mesh_plane.proofs.Affine.{continuity_law}
use Rattle.mesh_plane.proofs.laws.continuity.Goals as goal

pub returns : goal.returns
returns c = continuity_law
