use Rattle.top_words.proofs.Numbers.{metres_found}
use Rattle.top_words.proofs.question.guess_metres.Goals as goal

pub returns : goal.returns
returns c wanted size e = metres_found wanted _ _ _ size e c.parse.ensures.value.0 c.ok.ensures.value
