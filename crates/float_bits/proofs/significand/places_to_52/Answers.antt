use Rattle.float_bits.proofs.Significands.{places_in_word}
use Rattle.float_bits.proofs.significand.places_to_52.Goals as goal

pub overflow_sub-result : goal.overflow_sub-result
overflow_sub-result c = (places_in_word c.args.n c.requires.above c.requires.below).0

pub returns-clause-few : goal.returns-clause-few
returns-clause-few c = (places_in_word c.args.n c.requires.above c.requires.below).1.few

pub returns-clause-low : goal.returns-clause-low
returns-clause-low c = (places_in_word c.args.n c.requires.above c.requires.below).1.low

pub returns-clause-high : goal.returns-clause-high
returns-clause-high c = (places_in_word c.args.n c.requires.above c.requires.below).1.high
