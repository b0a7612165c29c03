-- The law.
use Rattle.tile_query.proofs.OneAnswer.{one_answer}
use Rattle.tile_query.proofs.laws.one_answer.Goals as goal

pub returns : goal.returns
returns c = one_answer
