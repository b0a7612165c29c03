use Rattle.top_words.proofs.Numbers.{height_found}
use Rattle.top_words.proofs.number.guess_height.Goals as goal

pub returns : goal.returns
returns c wanted is e = height_found wanted _ _ _ is e c.parse.ensures.value.0 c.ok.ensures.value
