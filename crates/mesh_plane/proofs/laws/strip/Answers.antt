-- The law of strips.
use Rattle.mesh_plane.proofs.StripProof.{strip_law}
use Rattle.mesh_plane.proofs.laws.strip.Goals as goal

pub returns : goal.returns
returns c = strip_law
