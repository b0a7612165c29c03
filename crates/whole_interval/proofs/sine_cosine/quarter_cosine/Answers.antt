use Rattle.std.proofs.Common.{◌∙◌}
use Rattle.whole_interval.proofs.Branches.{quarter_cosine_far, quarter_cosine_near}
use Rattle.whole_interval.proofs.sine_cosine.quarter_cosine.Goals as goal

pub returns-then-r-d-clause-exact : goal.returns-then-r-d-clause-exact
returns-then-r-d-clause-exact c = c.octant_cosine.ensures.exact ∙ quarter_cosine_near c.args.r c.args.d
    c.if-r-d.true

pub returns-else-r-d-clause-exact : goal.returns-else-r-d-clause-exact
returns-else-r-d-clause-exact c = c.octant_sine.ensures.exact ∙ quarter_cosine_far c.args.r c.args.d
    c.if-r-d.false
