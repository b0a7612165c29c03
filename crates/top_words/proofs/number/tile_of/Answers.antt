use Rattle.std.proofs.Common.{arith}
use Rattle.top_words.proofs.Same.{tile_found, row_within}
use Rattle.top_words.proofs.number.tile_of.Goals as goal

pub returns-then-y-gt16383-clause-all : goal.returns-then-y-gt16383-clause-all
returns-then-y-gt16383-clause-all c = λ wanted zs xs ys. absurd (let within = row_within wanted in omega (arith, within, ys, c.if-y-gt16383.true))

pub returns-clause-all : goal.returns-clause-all
returns-clause-all c = λ wanted zs xs ys. tile_found c.of.result _ _ _ wanted c.of.ensures.some.1 c.of.ensures.value zs xs ys
