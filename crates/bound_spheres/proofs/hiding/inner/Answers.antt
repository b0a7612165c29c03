use Rattle.std.proofs.Common.{◌≡◌, arith, rules, FitsSigned, refl}
use Rattle.std.proofs.lemmas.Int.{ints, to_z-of_z}
use Rattle.std.specs.Prelude.{◌+ℤ◌, ◌*ℤ◌}
use mir.Syntax.{w64}
use Rattle.bound_spheres.specs.Horizon.{dot}
use Rattle.bound_spheres.proofs.hiding.inner.Goals as goal

pub overflow_add-result : goal.overflow_add-result
overflow_add-result c =
    let x : FitsSigned w64 c.product-x.result = search rules in
    let y : FitsSigned w64 c.product-y.result = search rules in
    let fits : FitsSigned w64 (c.product-x.result +ℤ c.product-y.result) = omega (arith, ints, c.product-x.ensures.size, c.product-y.ensures.size) in
    simp to_z-of_z fits

pub overflow_add-result-2 : goal.overflow_add-result-2
overflow_add-result-2 c =
    let x : FitsSigned w64 c.product-x.result = search rules in
    let y : FitsSigned w64 c.product-y.result = search rules in
    let z : FitsSigned w64 c.product-z.result = search rules in
    let two : FitsSigned w64 (c.product-x.result +ℤ c.product-y.result) = omega (arith, ints, c.product-x.ensures.size, c.product-y.ensures.size) in
    let fits : FitsSigned w64 ((c.product-x.result +ℤ c.product-y.result) +ℤ c.product-z.result) = omega
    (arith, ints, c.product-x.ensures.size, c.product-y.ensures.size, c.product-z.ensures.size) in
    simp to_z-of_z fits

pub returns : goal.returns
returns c =
    let ax : FitsSigned w64 c.args.a.now.x = search rules in
    let ay : FitsSigned w64 c.args.a.now.y = search rules in
    let az : FitsSigned w64 c.args.a.now.z = search rules in
    let bx : FitsSigned w64 c.args.b.now.x = search rules in
    let by : FitsSigned w64 c.args.b.now.y = search rules in
    let bz : FitsSigned w64 c.args.b.now.z = search rules in
    let x : FitsSigned w64 c.product-x.result = search rules in
    let y : FitsSigned w64 c.product-y.result = search rules in
    let z : FitsSigned w64 c.product-z.result = search rules in
    let two : FitsSigned w64 (c.product-x.result +ℤ c.product-y.result) = omega (arith, ints, c.product-x.ensures.size, c.product-y.ensures.size) in
    let fits : FitsSigned w64 ((c.product-x.result +ℤ c.product-y.result) +ℤ c.product-z.result) = omega
    (arith, ints, c.product-x.ensures.size, c.product-y.ensures.size, c.product-z.ensures.size) in
    let x_is : c.product-x.result ≡ c.args.a.now.x *ℤ c.args.b.now.x = simp to_z-of_z at c.product-x.ensures.exact in
    let y_is : c.product-y.result ≡ c.args.a.now.y *ℤ c.args.b.now.y = simp to_z-of_z at c.product-y.ensures.exact in
    let z_is : c.product-z.result ≡ c.args.a.now.z *ℤ c.args.b.now.z = simp to_z-of_z at c.product-z.ensures.exact in
    let sum : (c.product-x.result +ℤ c.product-y.result) +ℤ c.product-z.result ≡ dot c.args.a.now c.args.b.now = rw (x_is, y_is, z_is) refl in
    simp to_z-of_z sum
