use Rattle.float_bits.proofs.Formats.{one_pattern64, one_pattern32}
use Rattle.float_bits.proofs.laws.one_pattern.Goals as goal

pub returns : goal.returns
returns c = record { binary64 = one_pattern64; binary32 = one_pattern32 }
