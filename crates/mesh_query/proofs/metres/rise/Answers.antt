-- A product that fits.
use Rattle.std.proofs.Common.{arith, FitsSigned, w64, ◌≤◌, ◌≡◌, ◌^◌}
use Rattle.std.specs.Prelude.{pos, ◌*ℤ◌, unsigned_abs}
use Rattle.std.proofs.lemmas.Int.{ints, to_z-of_z}
use Rattle.common_laws.proofs.Sizes.{size_product}
use Rattle.mesh_query.proofs.metres.rise.Goals as goal

pub returns-clause-value : goal.returns-clause-value
returns-clause-value c =
    let range_fits : FitsSigned w64 c.args.range = c.ranges.range in
    let p = size_product (pos c.args.code) c.args.range 32767 (2 ^ 25) c.requires.code c.requires.range in
    let e : c.from.result ≡ pos c.args.code = c.from.ensures in
    let code_fits : FitsSigned w64 (pos c.args.code) = omega (arith, ints, c.requires.code) in
    let g : FitsSigned w64 (pos c.args.code *ℤ c.args.range) = omega (arith, ints, p) in
    simp (e, to_z-of_z)

pub returns-clause-size : goal.returns-clause-size
returns-clause-size c =
    let range_fits : FitsSigned w64 c.args.range = c.ranges.range in
    let p = size_product (pos c.args.code) c.args.range 32767 (2 ^ 25) c.requires.code c.requires.range in
    let e : c.from.result ≡ pos c.args.code = c.from.ensures in
    let code_fits : FitsSigned w64 (pos c.args.code) = omega (arith, ints, c.requires.code) in
    let g : FitsSigned w64 (pos c.args.code *ℤ c.args.range) = omega (arith, ints, p) in
    let h : unsigned_abs (pos c.args.code *ℤ c.args.range) ≤ 2 ^ 40 = omega (arith, p) in
    simp (e, to_z-of_z) h
