use Rattle.terrain_base.proofs.Quotients.{root_is, root_once}
use Rattle.terrain_base.proofs.division.isqrt.Goals as goal

pub returns-clause-exact : goal.returns-clause-exact
returns-clause-exact c = root_once c.args.n c.isqrt.result _
    (record { low = c.isqrt.ensures.square_le; high = c.isqrt.ensures.next_square_gt }) (root_is c.args.n)
