-- Each finding contradicts the cover.
use Rattle.mesh_check.proofs.LawProofs.{none_where_covered_law}
use Rattle.mesh_check.proofs.laws.none_where_covered.Goals as goal

pub returns : goal.returns
returns c = none_where_covered_law
