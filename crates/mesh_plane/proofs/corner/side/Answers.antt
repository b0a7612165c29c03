-- The two products fit, and so does their difference.
use Rattle.std.proofs.Common.{arith, FitsSigned, w64}
use Rattle.std.specs.Prelude.{◌-ℤ◌}
use Rattle.std.specs.Int.{w128}
use Rattle.std.proofs.lemmas.Int.{ints, to_z-of_z}
use Rattle.mesh_plane.proofs.corner.side.Goals as goal

pub overflow_sub-b-2 : goal.overflow_sub-b-2
overflow_sub-b-2 c = omega (arith, ints, c.requires.a, c.requires.b)

pub overflow_sub-u : goal.overflow_sub-u
overflow_sub-u c =
    omega (arith, ints, c.requires.scale, c.requires.point, c.scaled-2.ensures.low, c.scaled-2.ensures.high)

pub product-along-requires-clause-a : goal.product-along-requires-clause-a
product-along-requires-clause-a c = omega (arith, ints, c.requires.a, c.requires.b)

pub product-along-requires-clause-b : goal.product-along-requires-clause-b
product-along-requires-clause-b c =
    omega (arith, ints, c.requires.scale, c.requires.point, c.scaled-2.ensures.low, c.scaled-2.ensures.high)

pub overflow_sub-across : goal.overflow_sub-across
overflow_sub-across c = omega (arith, ints, c.product-across.ensures.size, c.product-along.ensures.size)

pub returns-clause-value : goal.returns-clause-value
returns-clause-value c =
    let a = c.args.a.now in let b = c.args.b.now in
    let scale_range = c.ranges.scale in let u_range = c.ranges.u in let v_range = c.ranges.v in
    let a_u_fits : FitsSigned w64 a.u = omega (arith, ints, c.requires.a) in
    let a_v_fits : FitsSigned w64 a.v = omega (arith, ints, c.requires.a) in
    let b_u_fits : FitsSigned w64 b.u = omega (arith, ints, c.requires.b) in
    let b_v_fits : FitsSigned w64 b.v = omega (arith, ints, c.requires.b) in
    let a_to_b_u_fits : FitsSigned w64 (b.u -ℤ a.u) = omega (arith, ints, c.requires.a, c.requires.b) in
    let a_to_b_v_fits : FitsSigned w64 (b.v -ℤ a.v) = omega (arith, ints, c.requires.a, c.requires.b) in
    let scaled_v_fits : FitsSigned w64 c.scaled.result =
    omega (arith, ints, c.requires.scale, c.scaled.ensures.low, c.scaled.ensures.high) in
    let scaled_u_fits : FitsSigned w64 c.scaled-2.result =
    omega (arith, ints, c.requires.scale, c.scaled-2.ensures.low, c.scaled-2.ensures.high) in
    let a_to_point_v_fits : FitsSigned w64 (c.args.v -ℤ c.scaled.result) =
    omega (arith, ints, c.requires.scale, c.requires.point, c.scaled.ensures.low, c.scaled.ensures.high) in
    let a_to_point_u_fits : FitsSigned w64 (c.args.u -ℤ c.scaled-2.result) =
    omega (
      arith,
      ints,
      c.requires.scale,
      c.requires.point,
      c.scaled-2.ensures.low,
      c.scaled-2.ensures.high,
    ) in
    let across_fits : FitsSigned w64 c.product-across.result = omega (arith, ints, c.product-across.ensures.size) in
    let along_fits : FitsSigned w64 c.product-along.result = omega (arith, ints, c.product-along.ensures.size) in
    let difference_fits : FitsSigned w64 (c.product-across.result -ℤ c.product-along.result) =
    omega (arith, ints, c.product-across.ensures.size, c.product-along.ensures.size) in
    let scaled_v_value = simp to_z-of_z at c.scaled.ensures.value in
    let scaled_u_value = simp to_z-of_z at c.scaled-2.ensures.value in
    let across_value = simp to_z-of_z at c.product-across.ensures.value in
    let along_value = simp to_z-of_z at c.product-along.ensures.value in
    let difference_widened = simp to_z-of_z at c.from.ensures in
    let wide_difference_fits : FitsSigned w128 c.from.result =
    omega (arith, ints, difference_widened, c.product-across.ensures.size, c.product-along.ensures.size) in
    simp to_z-of_z (cc (scaled_v_value, scaled_u_value, across_value, along_value, difference_widened))

pub returns-clause-size : goal.returns-clause-size
returns-clause-size c =
    let across_fits : FitsSigned w64 c.product-across.result = omega (arith, ints, c.product-across.ensures.size) in
    let along_fits : FitsSigned w64 c.product-along.result = omega (arith, ints, c.product-along.ensures.size) in
    let difference_fits : FitsSigned w64 (c.product-across.result -ℤ c.product-along.result) =
    omega (arith, ints, c.product-across.ensures.size, c.product-along.ensures.size) in
    let difference_widened = simp to_z-of_z at c.from.ensures in
    let wide_difference_fits : FitsSigned w128 c.from.result =
    omega (arith, ints, difference_widened, c.product-across.ensures.size, c.product-along.ensures.size) in
    simp to_z-of_z
    (omega (arith, ints, difference_widened, c.product-across.ensures.size, c.product-along.ensures.size))
