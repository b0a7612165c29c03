use Rattle.float_bits.specs.Binary64.{binary64}
use Rattle.float_bits.proofs.Formats.{absent, on_none}
use Rattle.float_bits.proofs.binary64.lattice64.Goals as goal

pub returns-in_err-size-clause-none : goal.returns-in_err-size-clause-none
returns-in_err-size-clause-none c =
    on_none _ _ (absent binary64 _ c.args.shift c.args.bits c.if-bits-eq0.false c.in_err-size.ensures.only)

pub returns-in_err-size-clause-inverse : goal.returns-in_err-size-clause-inverse
returns-in_err-size-clause-inverse c = λ n h p.
    absurd (absent binary64 _ c.args.shift c.args.bits c.if-bits-eq0.false c.in_err-size.ensures.only n h p)
