use Rattle.std.proofs.Common.{◌<◌, ◌^◌, sym, subst, List, ℤ, All, unsigned_abs}
use Rattle.tile_bytes.proofs.Points.{point_is, few_all}
use Rattle.tile_bytes.proofs.horizon.horizon_point.Goals as goal

pub returns-clause-exact : goal.returns-clause-exact
returns-clause-exact c =
    point_is c.args.multiple c.in-Some.m c.args.sphere.now c.centre_of-centre.result c.in-Some.is c.requires.multiple
    c.centre_of-centre.ensures.exact c.centre_of-centre.ensures.size

pub returns-clause-size : goal.returns-clause-size
returns-clause-size c =
    subst (λ (ns : List ℤ). All (λ n. unsigned_abs n < 2 ^ 53) ns) (sym (returns-clause-exact c))
    (few_all c.args.multiple c.args.sphere.now c.requires.centre c.requires.multiple)
