-- The code's part and the least height, 32767 times.
use Rattle.std.proofs.Common.{◌≡◌, ◌≤◌, ◌^◌, arith, ap, w32, w64, FitsSigned}
use Rattle.std.specs.Prelude.{pos, ◌+ℤ◌, ◌-ℤ◌, ◌*ℤ◌, unsigned_abs}
use Rattle.std.specs.Int.{w128}
use Rattle.std.proofs.lemmas.Int.{ints, to_z-of_z}
use Rattle.mesh_query.proofs.metres.scaled_height.Goals as goal

pub returns-clause-value : goal.returns-clause-value
returns-clause-value c =
    let l = c.args.span.now.least in let g = c.args.span.now.greatest in
    let least_fits : FitsSigned w32 l = omega (arith, ints, c.requires.least) in
    let greatest_fits : FitsSigned w32 g = omega (arith, ints, c.requires.greatest) in
    let least : c.from-least.result ≡ l = simp to_z-of_z at c.from-least.ensures in
    let greatest : c.from.result ≡ g = simp to_z-of_z at c.from.ensures in
    let widened_least_fits : FitsSigned w64 l = omega (arith, ints, c.requires.least) in
    let widened_greatest_fits : FitsSigned w64 g = omega (arith, ints, c.requires.greatest) in
    let range_fits : FitsSigned w64 (g -ℤ l) = omega (arith, ints, c.requires.least, c.requires.greatest) in
    let scaled_least_fits : FitsSigned w64 (pos 32767 *ℤ l) = omega (arith, ints, c.requires.least) in
    let v : c.rise.result ≡ pos c.args.code *ℤ (g -ℤ l) = simp (least, greatest, to_z-of_z) at c.rise.ensures.value in
    let rise_fits : FitsSigned w64 c.rise.result = omega (arith, ints, c.rise.ensures.size) in
    let sum_fits : FitsSigned w64 (c.rise.result +ℤ pos 32767 *ℤ l) =
    omega (arith, ints, c.rise.ensures.size, c.requires.least) in
    let widened_sum_fits : FitsSigned w128 (c.rise.result +ℤ pos 32767 *ℤ l) =
    omega (arith, ints, c.rise.ensures.size, c.requires.least) in
    let sum : c.from-2.result ≡ c.rise.result +ℤ pos 32767 *ℤ l = simp (least, to_z-of_z) at c.from-2.ensures in
    simp (sum, to_z-of_z) (ap (λ z. z +ℤ pos 32767 *ℤ l) v)

pub returns-clause-size : goal.returns-clause-size
returns-clause-size c =
    let l = c.args.span.now.least in let g = c.args.span.now.greatest in
    let least_fits : FitsSigned w32 l = omega (arith, ints, c.requires.least) in
    let least : c.from-least.result ≡ l = simp to_z-of_z at c.from-least.ensures in
    let widened_least_fits : FitsSigned w64 l = omega (arith, ints, c.requires.least) in
    let scaled_least_fits : FitsSigned w64 (pos 32767 *ℤ l) = omega (arith, ints, c.requires.least) in
    let rise_fits : FitsSigned w64 c.rise.result = omega (arith, ints, c.rise.ensures.size) in
    let sum_fits : FitsSigned w64 (c.rise.result +ℤ pos 32767 *ℤ l) =
    omega (arith, ints, c.rise.ensures.size, c.requires.least) in
    let widened_sum_fits : FitsSigned w128 (c.rise.result +ℤ pos 32767 *ℤ l) =
    omega (arith, ints, c.rise.ensures.size, c.requires.least) in
    let sum : c.from-2.result ≡ c.rise.result +ℤ pos 32767 *ℤ l = simp (least, to_z-of_z) at c.from-2.ensures in
    let size : unsigned_abs (c.rise.result +ℤ pos 32767 *ℤ l) ≤ 2 ^ 42 = omega (arith, ints, c.rise.ensures.size, c.requires.least) in
    simp (sum, to_z-of_z) size
