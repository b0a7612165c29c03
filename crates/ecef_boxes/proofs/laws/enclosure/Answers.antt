use Rattle.ecef_boxes.proofs.Enclosing.{box_encloses}
use Rattle.ecef_boxes.proofs.laws.enclosure.Goals as goal

pub returns : goal.returns
returns c = box_encloses
