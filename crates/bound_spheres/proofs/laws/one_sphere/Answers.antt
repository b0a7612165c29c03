use Rattle.bound_spheres.proofs.OneSphere.{one_sphere}
use Rattle.bound_spheres.proofs.laws.one_sphere.Goals as goal

pub returns : goal.returns
returns c = one_sphere
