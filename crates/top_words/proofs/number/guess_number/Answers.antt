use Rattle.top_words.proofs.Numbers.{number_found}
use Rattle.top_words.proofs.number.guess_number.Goals as goal

pub returns : goal.returns
returns c wanted small e = number_found wanted _ _ _ small e c.parse.ensures.value.0 c.ok.ensures.value
