use Rattle.std.proofs.Common.{◌≡◌, ◌-◌, ◌*◌, ◌%◌, ◌^◌, arith, rules}
use Rattle.std.proofs.Math.Nat.{mod-eq_of_lt}
use Rattle.float_bits.specs.Binary32.{binary32}
use Rattle.float_bits.proofs.Significands.{IsPlaced, lowered}
use Rattle.float_bits.proofs.Formats.{normal_is}
use Rattle.float_bits.proofs.binary32.normal32.Goals as goal

pub overflow_sub-places : goal.overflow_sub-places
overflow_sub-places c =
    let placed : IsPlaced 52 c.args.size c.places_to_52-places.result = search rules in
    (lowered 23 29 c.args.size c.places_to_52-places.result c.requires.below placed).0

pub overflow_sub-fraction : goal.overflow_sub-fraction
overflow_sub-fraction c =
    let n = c.args.size in let p = c.places_to_52-places.result in
    let placed : IsPlaced 52 n p = search rules in
    let here = lowered 23 29 n p c.requires.below placed in
    let size_is : n * 2 ^ (p - 29) % 2 ^ 32 ≡ n * 2 ^ (p - 29) = mod-eq_of_lt (omega (arith, here.1.high)) in
    rw size_is here.1.low

pub overflow_add-result-2 : goal.overflow_add-result-2
overflow_add-result-2 c =
    let n = c.args.size in let p = c.places_to_52-places.result in
    let placed : IsPlaced 52 n p = search rules in
    let here = lowered 23 29 n p c.requires.below placed in
    let size_is : n * 2 ^ (p - 29) % 2 ^ 32 ≡ n * 2 ^ (p - 29) = mod-eq_of_lt (omega (arith, here.1.high)) in
    let high = here.1.high in
    rw size_is (search rules)

pub returns : goal.returns
returns c =
    let b = c.args.sign in let n = c.args.size in let p = c.places_to_52-places.result in
    let placed : IsPlaced 52 n p = search rules in
    let here = lowered 23 29 n p c.requires.below placed in
    let sign_is : b * 2 ^ 31 % 2 ^ 32 ≡ b * 2 ^ 31 = omega arith in
    let exponent_is : (150 - (p - 29)) * 2 ^ 23 % 2 ^ 32 ≡ (150 - (p - 29)) * 2 ^ 23 = omega arith in
    let size_is : n * 2 ^ (p - 29) % 2 ^ 32 ≡ n * 2 ^ (p - 29) = mod-eq_of_lt (omega (arith, here.1.high)) in
    rw (sign_is, exponent_is, size_is)
    (normal_is binary32 b n 0 (p - 29) (150 - (p - 29)) here.1 (omega (arith, here.1.few)) (omega (arith, here.1.few)) (omega arith))
