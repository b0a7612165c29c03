-- Of two findings the one before rules out the other.
use Rattle.mesh_check.proofs.LawProofs.{one_finding_law}
use Rattle.mesh_check.proofs.laws.one_finding.Goals as goal

pub returns : goal.returns
returns c = one_finding_law
