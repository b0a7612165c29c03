use Rattle.std.proofs.Common.{◌∙◌, ◌*◌, ◌/◌, ◌%◌, ap}
use Rattle.whole_interval.specs.HalfTurn.{quarter_sine_of, turn_of, turned_of}
use Rattle.whole_interval.proofs.sine_cosine.turn.Goals as goal

pub returns-clause-exact : goal.returns-clause-exact
unfolding turn_of
returns-clause-exact c = c.turned.ensures.exact
    ∙ ap (λ a. turned_of (2 * c.args.m / c.args.d) a c.quarter_cosine.result) c.quarter_sine.ensures.exact
    ∙ ap (λ a. turned_of (2 * c.args.m / c.args.d) (quarter_sine_of (2 * c.args.m % c.args.d) c.args.d) a)
    c.quarter_cosine.ensures.exact
