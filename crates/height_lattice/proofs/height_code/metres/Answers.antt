use Rattle.std.proofs.Common.{◌≡◌, ◌/◌, ◌%◌, ℤ, Some, ap, arith}
use Rattle.std.proofs.lemmas.Int.{ints}
use Rattle.std.proofs.lemmas.Nat.Gcd.{mod-eq-zero_of_dvd, dvd_of_mod-eq-zero}
use Rattle.height_lattice.proofs.Codes.{range_above, step_above, code_small, code_divides}
use Rattle.height_lattice.proofs.Codes.{quotient_is, code_is}
use Rattle.height_lattice.proofs.height_code.metres.Goals as goal

pub nonzero_div-codes_per_metre : goal.nonzero_div-codes_per_metre
nonzero_div-codes_per_metre c = range_above c.args.frame.now.range c.requires

pub nonzero_rem-code : goal.nonzero_rem-code
nonzero_rem-code c = step_above c.args.frame.now.range c.requires

pub nonzero_div-result : goal.nonzero_div-result
nonzero_div-result c = step_above c.args.frame.now.range c.requires

pub returns-then-code-gt-GREATEST_CODE-clause-inverse : goal.returns-then-code-gt-GREATEST_CODE-clause-inverse
returns-then-code-gt-GREATEST_CODE-clause-inverse c = λ m within place.
    let small = code_small c.args.frame.now m c.args.code c.requires within place in
    absurd (omega (arith, small))

pub returns-then-code-codes_per_metre-ne0-clause-none : goal.returns-then-code-codes_per_metre-ne0-clause-none
returns-then-code-codes_per_metre-ne0-clause-none c = λ small divides.
    c.if-code-codes_per_metre-ne0.true (mod-eq-zero_of_dvd (32767 / c.args.frame.now.range) divides)

pub returns-then-code-codes_per_metre-ne0-clause-inverse : goal.returns-then-code-codes_per_metre-ne0-clause-inverse
returns-then-code-codes_per_metre-ne0-clause-inverse c = λ m within place.
    absurd (c.if-code-codes_per_metre-ne0.true
    (code_divides c.args.frame.now m c.args.code c.requires within place))

pub returns-clause-some : goal.returns-clause-some
returns-clause-some c =
    let range = c.args.frame.now.range in
    let rest : c.args.code % (32767 / range) ≡ 0 = omega arith in
    let place = code_is c.args.code range c.requires rest in
    (omega arith, dvd_of_mod-eq-zero (32767 / range) rest, omega (arith, ints, place))

pub returns-clause-inverse : goal.returns-clause-inverse
returns-clause-inverse c = λ m within place.
    let same = quotient_is c.args.frame.now m c.args.code c.requires within place in
    ap (λ (z : ℤ). Some z) (omega (arith, ints, same))
