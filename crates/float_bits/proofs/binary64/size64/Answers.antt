use Rattle.std.proofs.Common.{refl, arith}
use Rattle.float_bits.specs.Binary64.{binary64}
use Rattle.float_bits.proofs.Formats.{read_whole, value_of}
use Rattle.float_bits.proofs.binary64.size64.Goals as goal

pub returns-clause-some : goal.returns-clause-some
returns-clause-some c =
    read_whole binary64 52 _ _ c.args.shift c.args.bits refl (omega (arith, c.requires)) (omega arith)
    c.whole_number.ensures.some c.whole_number.ensures.near

pub returns-clause-only : goal.returns-clause-only
returns-clause-only c = λ n h p.
    c.whole_number.ensures.only n (omega arith) (value_of binary64 _ n _ c.args.shift c.args.bits refl p)
