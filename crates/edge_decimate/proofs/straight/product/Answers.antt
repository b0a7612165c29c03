use Rattle.std.proofs.Common.{arith, ◌^◌, ◌*ℤ◌, FitsSigned, w64}
use Rattle.std.specs.Prelude.{unsigned_abs}
use Rattle.std.proofs.lemmas.Int.{to_z-of_z, unsigned_abs-mul, fits_signed_mul}
use Rattle.std.proofs.lemmas.Nat.{mul-le}
use Rattle.edge_decimate.proofs.straight.product.Goals as goal

pub returns-clause-value : goal.returns-clause-value
returns-clause-value c =
    let fa : FitsSigned w64 c.args.a = c.ranges.a in
    let fb : FitsSigned w64 c.args.b = c.ranges.b in
    let f : FitsSigned w64 (c.args.a *ℤ c.args.b) = fits_signed_mul w64 c.args.a c.args.b (2 ^ 16)
    (2 ^ 16) c.requires.left c.requires.right (omega arith) in
    simp to_z-of_z

pub returns-clause-size : goal.returns-clause-size
returns-clause-size c =
    let fa : FitsSigned w64 c.args.a = c.ranges.a in
    let fb : FitsSigned w64 c.args.b = c.ranges.b in
    let m = mul-le (unsigned_abs c.args.a) (unsigned_abs c.args.b) (2 ^ 16)
    (2 ^ 16) c.requires.left c.requires.right in
    let n = unsigned_abs-mul c.args.a c.args.b in
    let f : FitsSigned w64 (c.args.a *ℤ c.args.b) = fits_signed_mul w64 c.args.a c.args.b (2 ^ 16)
    (2 ^ 16) c.requires.left c.requires.right (omega arith) in
    simp to_z-of_z (omega (arith, m, n))
