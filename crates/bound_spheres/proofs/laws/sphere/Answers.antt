use Rattle.bound_spheres.proofs.SphereOf.{sphere_of_is, sphere_small}
use Rattle.bound_spheres.proofs.laws.sphere.Goals as goal

pub returns : goal.returns
returns c = record { sphere = sphere_of_is; size = sphere_small }
