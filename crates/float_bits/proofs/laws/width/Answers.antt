use Rattle.float_bits.proofs.Patterns.{width64, width32}
use Rattle.float_bits.proofs.laws.width.Goals as goal

pub returns : goal.returns
returns c = record { binary64 = width64; binary32 = width32 }
