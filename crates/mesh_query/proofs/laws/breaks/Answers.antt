-- By the laws of meeting and of corners.
use Rattle.mesh_query.proofs.BreakCauses.{break_law}
use Rattle.mesh_query.proofs.laws.breaks.Goals as goal

pub returns : goal.returns
returns c = break_law
