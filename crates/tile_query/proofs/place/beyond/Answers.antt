-- The shift is a product that fits, and so does the difference, 32767 times.
use Rattle.std.proofs.Common.{arith}
use Rattle.std.proofs.lemmas.Int.{ints}
use Rattle.tile_query.proofs.Places.{shifted, shifted_small}
use Rattle.tile_query.proofs.place.beyond.Goals as goal

pub overflow_mul-result : goal.overflow_mul-result
overflow_mul-result c =
    let small = shifted_small c.args.z c.args.seconds c.requires.level c.requires.seconds in
    let whole = shifted c.args.z c.args.seconds c.requires.level c.requires.seconds in
    rw (c.from.ensures, whole, c.from-2.ensures, c.from-3.ensures) (omega (arith, ints, small, c.requires.stripe))

pub returns : goal.returns
returns c =
    let small = shifted_small c.args.z c.args.seconds c.requires.level c.requires.seconds in
    let whole = shifted c.args.z c.args.seconds c.requires.level c.requires.seconds in
    rw (c.from.ensures, whole, c.from-2.ensures, c.from-3.ensures) (omega (arith, ints, small, c.requires.stripe))
