use Rattle.ecef_boxes.proofs.Radii.{sideways_inside}
use Rattle.ecef_boxes.proofs.frame.sideways.Goals as goal

pub returns-clause-size : goal.returns-clause-size
returns-clause-size c = rw c.mul.ensures.exact
    (sideways_inside c.args.out.now c.args.part.now c.requires.out c.requires.part)
