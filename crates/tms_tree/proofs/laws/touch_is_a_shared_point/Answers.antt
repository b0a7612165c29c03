use Rattle.tms_tree.proofs.Overlapping.{overlaps_law}
use Rattle.tms_tree.proofs.Touching.{touches_law}
use Rattle.tms_tree.proofs.laws.touch_is_a_shared_point.Goals as goal

pub returns-clause-touch : goal.returns-clause-touch
returns-clause-touch c = touches_law

pub returns-clause-overlap : goal.returns-clause-overlap
returns-clause-overlap c = overlaps_law
