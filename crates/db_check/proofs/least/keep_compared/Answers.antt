use Rattle.database.specs.Verdict.{difference_at}
use Rattle.db_check.proofs.least.keep_compared.Goals as goal

pub returns-clause-least : goal.returns-clause-least
returns-clause-least g c = λ files s names held wanted least. c.keep.ensures (difference_at s files) names least
    (c.in_ok-kind.ensures.compared files s held wanted)
