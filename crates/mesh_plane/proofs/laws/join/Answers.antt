-- The law of joins.
use Rattle.mesh_plane.proofs.Joins.{join_law}
use Rattle.mesh_plane.proofs.laws.join.Goals as goal

pub returns : goal.returns
returns c = join_law
