use Rattle.std.proofs.Common.{◌≡◌, ◌-◌, ◌*◌, ◌%◌, ◌^◌, arith, rules}
use Rattle.std.proofs.Math.Nat.{mod-eq_of_lt}
use Rattle.float_bits.specs.Binary64.{binary64}
use Rattle.float_bits.proofs.Significands.{IsPlaced}
use Rattle.float_bits.proofs.Formats.{normal_is}
use Rattle.float_bits.proofs.binary64.normal64.Goals as goal

pub returns : goal.returns
returns c =
    let b = c.args.sign in let n = c.args.size in let s = c.args.shift in
    let p = c.places_to_52-places.result in
    let few = c.places_to_52-places.ensures.few in
    let placed : IsPlaced 52 n p = search rules in
    let sign_is : b * 2 ^ 63 % 2 ^ 64 ≡ b * 2 ^ 63 = omega arith in
    let exponent_is : (1075 - p - s) * 2 ^ 52 % 2 ^ 64 ≡ (1075 - p - s) * 2 ^ 52 = omega arith in
    let size_is : n * 2 ^ p % 2 ^ 64 ≡ n * 2 ^ p = mod-eq_of_lt (omega (arith, placed.high)) in
    rw (sign_is, exponent_is, size_is)
    (normal_is binary64 b n s p (1075 - p - s) placed (omega (arith, few, c.requires.shift)) (omega (arith, few, c.requires.shift)) (omega arith))
