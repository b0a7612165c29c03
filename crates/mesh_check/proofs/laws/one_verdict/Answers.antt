-- A verdict is told by what holds of the mesh.
use Rattle.mesh_check.proofs.LawProofs.{one_verdict_law}
use Rattle.mesh_check.proofs.laws.one_verdict.Goals as goal

pub returns : goal.returns
returns c = one_verdict_law
