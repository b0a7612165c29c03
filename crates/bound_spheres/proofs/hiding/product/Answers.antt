use Rattle.std.proofs.Common.{arith, rules, FitsSigned, ◌≤◌, ◌^◌}
use Rattle.std.proofs.lemmas.Int.{ints, to_z-of_z}
use Rattle.std.specs.Prelude.{◌*ℤ◌, unsigned_abs}
use mir.Syntax.{w64}
use Rattle.bound_spheres.proofs.Horizons.{product_few}
use Rattle.bound_spheres.proofs.hiding.product.Goals as goal

pub overflow_mul-result : goal.overflow_mul-result
overflow_mul-result c =
    let a : FitsSigned w64 c.args.a = search rules in
    let b : FitsSigned w64 c.args.b = search rules in
    let size : unsigned_abs (c.args.a *ℤ c.args.b) ≤ 2 ^ 42 = product_few c.args.a c.args.b c.requires.a c.requires.b in
    let fits : FitsSigned w64 (c.args.a *ℤ c.args.b) = omega (arith, ints, size) in
    simp to_z-of_z fits

pub returns : goal.returns
returns c =
    let a : FitsSigned w64 c.args.a = search rules in
    let b : FitsSigned w64 c.args.b = search rules in
    let size : unsigned_abs (c.args.a *ℤ c.args.b) ≤ 2 ^ 42 = product_few c.args.a c.args.b c.requires.a c.requires.b in
    let fits : FitsSigned w64 (c.args.a *ℤ c.args.b) = omega (arith, ints, size) in
    record { exact = simp to_z-of_z; size = simp to_z-of_z size }
