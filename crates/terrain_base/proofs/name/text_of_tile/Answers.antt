use Rattle.std.proofs.Common.{arith, length-append}
use Rattle.terrain_base.proofs.TileNumbers.{short_z, short_x, short_y}
use Rattle.terrain_base.proofs.name.text_of_tile.Goals as goal

pub push_decimal-requires-2 : goal.push_decimal-requires-2
push_decimal-requires-2 c = simp (c.push.ensures, c.push_decimal.ensures, c.from.ensures, c.new-text.ensures, length-append) (omega (arith, short_z c.args.tile, short_x c.args.tile))

pub push-requires-2 : goal.push-requires-2
push-requires-2 c = simp (c.push_decimal-2.ensures, c.push.ensures, c.push_decimal.ensures, c.from.ensures, c.new-text.ensures, length-append) (omega (arith, short_z c.args.tile, short_x c.args.tile))

pub push_decimal-requires-3 : goal.push_decimal-requires-3
push_decimal-requires-3 c = simp (c.push-2.ensures, c.push_decimal-2.ensures, c.push.ensures, c.push_decimal.ensures, c.from.ensures, c.new-text.ensures, length-append) (omega (arith, short_z c.args.tile, short_x c.args.tile, short_y c.args.tile))

pub returns-clause-short : goal.returns-clause-short
returns-clause-short c = simp (c.push_decimal-3.ensures, c.push-2.ensures, c.push_decimal-2.ensures, c.push.ensures, c.push_decimal.ensures, c.from.ensures, c.new-text.ensures, length-append) (omega (arith, short_z c.args.tile, short_x c.args.tile, short_y c.args.tile))
