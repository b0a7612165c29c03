-- The two products fit, and so does their difference.
use Rattle.std.proofs.Common.{arith, FitsSigned, w64}
use Rattle.std.specs.Prelude.{◌-ℤ◌}
use Rattle.std.proofs.lemmas.Int.{ints, to_z-of_z}
use Rattle.mesh_plane.proofs.corner.doubled.Goals as goal

pub overflow_sub-tri-3 : goal.overflow_sub-tri-3
overflow_sub-tri-3 c = omega (arith, ints, c.requires.a, c.requires.b, c.requires.c)

pub overflow_sub-result : goal.overflow_sub-result
overflow_sub-result c = omega (arith, ints, c.product-across.ensures, c.product-along.ensures)

pub returns-clause-value : goal.returns-clause-value
returns-clause-value c =
    let t = c.args.tri.now in
    let a_u_fits : FitsSigned w64 t.a.u = omega (arith, ints, c.requires.a) in
    let a_v_fits : FitsSigned w64 t.a.v = omega (arith, ints, c.requires.a) in
    let b_u_fits : FitsSigned w64 t.b.u = omega (arith, ints, c.requires.b) in
    let b_v_fits : FitsSigned w64 t.b.v = omega (arith, ints, c.requires.b) in
    let c_u_fits : FitsSigned w64 t.c.u = omega (arith, ints, c.requires.c) in
    let c_v_fits : FitsSigned w64 t.c.v = omega (arith, ints, c.requires.c) in
    let a_to_b_u_fits : FitsSigned w64 (t.b.u -ℤ t.a.u) = omega (arith, ints, c.requires.a, c.requires.b) in
    let a_to_b_v_fits : FitsSigned w64 (t.b.v -ℤ t.a.v) = omega (arith, ints, c.requires.a, c.requires.b) in
    let a_to_c_u_fits : FitsSigned w64 (t.c.u -ℤ t.a.u) = omega (arith, ints, c.requires.a, c.requires.c) in
    let a_to_c_v_fits : FitsSigned w64 (t.c.v -ℤ t.a.v) = omega (arith, ints, c.requires.a, c.requires.c) in
    let across_fits : FitsSigned w64 c.product-across.result = omega (arith, ints, c.product-across.ensures.size) in
    let along_fits : FitsSigned w64 c.product-along.result = omega (arith, ints, c.product-along.ensures.size) in
    let difference_fits : FitsSigned w64 (c.product-across.result -ℤ c.product-along.result) =
    omega (arith, ints, c.product-across.ensures.size, c.product-along.ensures.size) in
    let across_value = simp to_z-of_z at c.product-across.ensures.value in
    let along_value = simp to_z-of_z at c.product-along.ensures.value in
    simp to_z-of_z (cc (across_value, along_value))

pub returns-clause-size : goal.returns-clause-size
returns-clause-size c =
    let across_fits : FitsSigned w64 c.product-across.result = omega (arith, ints, c.product-across.ensures.size) in
    let along_fits : FitsSigned w64 c.product-along.result = omega (arith, ints, c.product-along.ensures.size) in
    let difference_fits : FitsSigned w64 (c.product-across.result -ℤ c.product-along.result) =
    omega (arith, ints, c.product-across.ensures.size, c.product-along.ensures.size) in
    simp to_z-of_z (omega (arith, ints, c.product-across.ensures.size, c.product-along.ensures.size))
