use Rattle.bound_spheres.proofs.Horizons.{rises}
use Rattle.bound_spheres.proofs.laws.hiding_rises.Goals as goal

pub returns : goal.returns
returns c = rises
