use Rattle.std.proofs.Common.{arith}
use Rattle.float_bits.specs.Binary32.{binary32}
use Rattle.float_bits.proofs.Formats.{read_whole, value_of}
use Rattle.float_bits.proofs.binary32.size32.Goals as goal

pub returns-clause-some : goal.returns-clause-some
returns-clause-some c =
    read_whole binary32 52 _ _ 0 c.args.bits (omega arith) (omega arith) (omega arith)
    c.whole_number.ensures.some c.whole_number.ensures.near

pub returns-clause-only : goal.returns-clause-only
returns-clause-only c = λ n h p.
    c.whole_number.ensures.only n (omega arith) (value_of binary32 _ n _ 0 c.args.bits (omega arith) p)
