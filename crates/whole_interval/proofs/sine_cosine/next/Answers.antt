use Rattle.std.proofs.Common.{◌∙◌, ◌*◌, ◌+◌, ap}
use Rattle.whole_interval.specs.Interval.{div_whole_of}
use Rattle.whole_interval.specs.HalfTurn.{next_of}
use Rattle.whole_interval.proofs.sine_cosine.next.Goals as goal

pub returns : goal.returns
unfolding next_of
returns c = c.div_whole.ensures.exact ∙ ap (λ a. div_whole_of a
    ((2 * c.args.j + c.args.from) * (2 * c.args.j + c.args.from + 1))) c.mul.ensures.exact
