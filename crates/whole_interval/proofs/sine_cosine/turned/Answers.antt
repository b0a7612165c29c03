use Rattle.std.proofs.Common.{arith}
use Rattle.whole_interval.proofs.Branches.{turned_none, turned_once, turned_twice, turned_thrice}
use Rattle.whole_interval.proofs.sine_cosine.turned.Goals as goal

pub returns-in-0-clause-exact : goal.returns-in-0-clause-exact
returns-in-0-clause-exact c = turned_none c.args.k c.args.sine c.args.cosine (omega arith)

pub returns-in-1-clause-exact : goal.returns-in-1-clause-exact
returns-in-1-clause-exact c = turned_once c.args.k c.args.sine c.args.cosine _ (omega arith)
    c.negated.ensures.exact

pub returns-in-2-clause-exact : goal.returns-in-2-clause-exact
returns-in-2-clause-exact c = turned_twice c.args.k c.args.sine c.args.cosine _ _ (omega arith)
    c.negated-in-2.ensures.exact c.negated-in-2-2.ensures.exact

pub returns-in_default-clause-exact : goal.returns-in_default-clause-exact
returns-in_default-clause-exact c = turned_thrice c.args.k c.args.sine c.args.cosine _ (λ e. omega arith)
    (λ e. omega arith) (λ e. omega arith) c.negated-in_default.ensures.exact
