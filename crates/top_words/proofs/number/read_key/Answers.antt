use Rattle.std.proofs.Common.{◌∙◌, sym}
use Rattle.top_words.proofs.Same.{key_found}
use Rattle.top_words.proofs.number.read_key.Goals as goal

pub returns-clause-all : goal.returns-clause-all
returns-clause-all c = λ wanted is.
    key_found c.in_ok-square.square c.in_ok-level.level wanted (sym c.in_ok-square.ensures.some ∙ c.as_bytes.ensures.value ∙ is.square) (c.in_ok-level.ensures.all wanted.level is.level)
