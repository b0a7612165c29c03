use Rattle.float_bits.proofs.Patterns.{bits64_is, bits32_is}
use Rattle.float_bits.proofs.laws.pattern.Goals as goal

pub returns : goal.returns
returns c = record { binary64 = bits64_is; binary32 = bits32_is }
