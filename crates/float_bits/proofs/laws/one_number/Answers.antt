use Rattle.float_bits.proofs.Formats.{one_number64, one_number32}
use Rattle.float_bits.proofs.laws.one_number.Goals as goal

pub returns : goal.returns
returns c = record { binary64 = one_number64; binary32 = one_number32 }
