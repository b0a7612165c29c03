use Rattle.std.proofs.Common.{sym, ◌∙◌}
use Rattle.database.proofs.Verdicts.{least_none, least_then, least_else}
use Rattle.db_check.proofs.least.keep.Goals as goal

pub returns-in-None : goal.returns-in-None
returns-in-None c = λ at names least e. least_none at names c.args.best c.args.name c.args.kind c.in-None.is least e

pub returns-then-lt : goal.returns-then-lt
returns-then-lt c = λ at names least e.
    least_then at names c.args.best c.in-Some-best.found c.args.name c.args.kind c.in-Some.kind c.in-Some-best.is
    c.in-Some.is (sym c.lt.ensures ∙ c.if-lt.true) least e

pub returns-else-lt : goal.returns-else-lt
returns-else-lt c = λ at names least e.
    least_else at names c.args.best c.in-Some-best.found c.args.name c.args.kind c.in-Some.kind c.in-Some-best.is
    c.in-Some.is (sym c.lt.ensures ∙ c.if-lt.false) least e
