use Rattle.std.proofs.Common.{arith, sym}
use Rattle.quad_split.proofs.Levels.{bit_no, bit_yes, in_bounds}
use Rattle.quad_split.proofs.splits.bit.Goals as goal

pub bounds-bits-k : goal.bounds-bits-k
bounds-bits-k c = in_bounds c.args.k c.args.x c.args.y _ (omega arith) c.requires.level
    (sym c.if-not-is_place.ensures) c.requires.room

pub returns-then-not-is_place : goal.returns-then-not-is_place
returns-then-not-is_place c = bit_no c.args.bits.now c.args.k c.args.x c.args.y
    (sym c.if-not-is_place.ensures)

pub returns : goal.returns
returns c = bit_yes c.args.bits.now c.args.k c.args.x c.args.y (omega arith) (sym c.if-not-is_place.ensures)
