use Rattle.ecef_boxes.proofs.SmallBoxes.{box_small}
use Rattle.ecef_boxes.proofs.laws.size.Goals as goal

pub returns : goal.returns
returns c = box_small
