use Rattle.ecef_boxes.proofs.Radii.{eccentricity_is}
use Rattle.ecef_boxes.proofs.ellipsoid.eccentricity.Goals as goal

pub returns : goal.returns
returns c = eccentricity_is
