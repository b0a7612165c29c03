use Rattle.std.proofs.Common.{◌*◌, ◌/◌, arith}
use Rattle.std.proofs.lemmas.Int.{ints}
use Rattle.height_lattice.specs.HeightCode.{IsCode}
use Rattle.height_lattice.proofs.Codes.{range_above, product, same_code}
use Rattle.height_lattice.proofs.Frames.{code_of_is}
use Rattle.height_lattice.proofs.height_code.code.Goals as goal

pub nonzero_div-result : goal.nonzero_div-result
nonzero_div-result c = range_above c.args.frame.now.range c.requires.divisor

pub returns-clause-place : goal.returns-clause-place
returns-clause-place c =
    let scaled = product c.metres_above_base.result c.args.frame.now.range c.requires.divisor in
    omega (arith, ints, c.metres_above_base.ensures, scaled)

pub returns-clause-exact : goal.returns-clause-exact
returns-clause-exact c =
    let frame = c.args.frame.now in let code = c.metres_above_base.result * (32767 / frame.range) in
    let scaled = product c.metres_above_base.result frame.range c.requires.divisor in
    let place : IsCode frame c.args.metres code = omega (arith, ints, c.metres_above_base.ensures, scaled) in
    same_code frame c.args.metres code _ c.requires.divisor place
    (code_of_is frame c.args.metres c.requires.divisor c.requires.within.low)
