use Rattle.bound_spheres.proofs.Horizons.{needed_fits, needed_few}
use Rattle.bound_spheres.proofs.hiding.is_beyond.Goals as goal

pub overflow_mul-needed-2 : goal.overflow_mul-needed-2
overflow_mul-needed-2 c = needed_fits c.args.excess c.args.m c.args.across c.requires.excess c.requires.m c.requires.across

pub overflow_add-result : goal.overflow_add-result
overflow_add-result c = needed_few c.args.excess c.args.m c.args.across c.requires.excess c.requires.m c.requires.across
