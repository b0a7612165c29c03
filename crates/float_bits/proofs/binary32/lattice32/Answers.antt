use Rattle.float_bits.specs.Binary32.{binary32}
use Rattle.float_bits.proofs.Formats.{absent, on_none}
use Rattle.float_bits.proofs.binary32.lattice32.Goals as goal

pub returns-in_err-size-clause-none : goal.returns-in_err-size-clause-none
returns-in_err-size-clause-none c =
    on_none _ _ (absent binary32 _ 0 c.args.bits c.if-bits-eq0.false c.in_err-size.ensures.only)

pub returns-in_err-size-clause-inverse : goal.returns-in_err-size-clause-inverse
returns-in_err-size-clause-inverse c = λ n h p.
    absurd (absent binary32 _ 0 c.args.bits c.if-bits-eq0.false c.in_err-size.ensures.only n h p)
