-- What a verdict of Good says.
use Rattle.mesh_check.proofs.LawProofs.{good_law}
use Rattle.mesh_check.proofs.laws.good.Goals as goal

pub returns : goal.returns
returns c = good_law
