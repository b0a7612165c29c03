use Rattle.std.proofs.Common.{◌∙◌, arith}
use Rattle.whole_interval.proofs.Branches.{alternated_even, alternated_odd}
use Rattle.whole_interval.proofs.sine_cosine.alternated.Goals as goal

pub returns-then-j-eq0 : goal.returns-then-j-eq0
returns-then-j-eq0 c = c.sub.ensures.exact ∙ alternated_even _ _ c.args.j (omega arith)

pub returns-else-j-eq0 : goal.returns-else-j-eq0
returns-else-j-eq0 c = c.add.ensures.exact ∙ alternated_odd _ _ c.args.j (λ e. omega arith)
