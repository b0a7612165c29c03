-- Three products of heights and sides.
use Rattle.std.proofs.Common.{arith, rules, FitsSigned}
use Rattle.std.specs.Prelude.{◌+ℤ◌}
use Rattle.std.specs.Int.{w32, w128}
use Rattle.std.proofs.lemmas.Int.{ints, to_z-of_z}
use Rattle.mesh_plane.proofs.gap.lift.Goals as goal

pub overflow_add-result : goal.overflow_add-result
overflow_add-result c = omega (arith, ints, c.weighted-a.ensures.size, c.weighted-b.ensures.size)

pub overflow_add-result-2 : goal.overflow_add-result-2
overflow_add-result-2 c =
    let weighted_a_fits : FitsSigned w128 c.weighted-a.result = omega (arith, ints, c.weighted-a.ensures.size) in
    let weighted_b_fits : FitsSigned w128 c.weighted-b.result = omega (arith, ints, c.weighted-b.ensures.size) in
    let weighted_c_fits : FitsSigned w128 c.weighted-c.result = omega (arith, ints, c.weighted-c.ensures.size) in
    let first_two_fit : FitsSigned w128 (c.weighted-a.result +ℤ c.weighted-b.result) =
    omega (arith, ints, c.weighted-a.ensures.size, c.weighted-b.ensures.size) in
    simp to_z-of_z
    (omega (arith, ints, c.weighted-a.ensures.size, c.weighted-b.ensures.size, c.weighted-c.ensures.size))

pub returns-clause-value : goal.returns-clause-value
returns-clause-value c =
    let t = c.args.tri.now in
    let scale_range = c.ranges.scale in let u_range = c.ranges.u in let v_range = c.ranges.v in
    let height_a_fits : FitsSigned w32 t.a.h = search rules in
    let height_b_fits : FitsSigned w32 t.b.h = search rules in
    let height_c_fits : FitsSigned w32 t.c.h = search rules in
    let side_bc_fits : FitsSigned w128 c.side.result = omega (arith, ints, c.side.ensures.size) in
    let side_ca_fits : FitsSigned w128 c.side-2.result = omega (arith, ints, c.side-2.ensures.size) in
    let side_ab_fits : FitsSigned w128 c.side-3.result = omega (arith, ints, c.side-3.ensures.size) in
    let weighted_a_fits : FitsSigned w128 c.weighted-a.result = omega (arith, ints, c.weighted-a.ensures.size) in
    let weighted_b_fits : FitsSigned w128 c.weighted-b.result = omega (arith, ints, c.weighted-b.ensures.size) in
    let weighted_c_fits : FitsSigned w128 c.weighted-c.result = omega (arith, ints, c.weighted-c.ensures.size) in
    let first_two_fit : FitsSigned w128 (c.weighted-a.result +ℤ c.weighted-b.result) =
    omega (arith, ints, c.weighted-a.ensures.size, c.weighted-b.ensures.size) in
    let all_three_fit : FitsSigned w128 ((c.weighted-a.result +ℤ c.weighted-b.result) +ℤ c.weighted-c.result) =
    omega (arith, ints, c.weighted-a.ensures.size, c.weighted-b.ensures.size, c.weighted-c.ensures.size) in
    let side_bc_value = simp to_z-of_z at c.side.ensures.value in
    let side_ca_value = simp to_z-of_z at c.side-2.ensures.value in
    let side_ab_value = simp to_z-of_z at c.side-3.ensures.value in
    let weighted_a_value = simp to_z-of_z at c.weighted-a.ensures.value in
    let weighted_b_value = simp to_z-of_z at c.weighted-b.ensures.value in
    let weighted_c_value = simp to_z-of_z at c.weighted-c.ensures.value in
    simp to_z-of_z
    (cc (side_bc_value, side_ca_value, side_ab_value, weighted_a_value, weighted_b_value, weighted_c_value))

pub returns-clause-size : goal.returns-clause-size
returns-clause-size c =
    let weighted_a_fits : FitsSigned w128 c.weighted-a.result = omega (arith, ints, c.weighted-a.ensures.size) in
    let weighted_b_fits : FitsSigned w128 c.weighted-b.result = omega (arith, ints, c.weighted-b.ensures.size) in
    let weighted_c_fits : FitsSigned w128 c.weighted-c.result = omega (arith, ints, c.weighted-c.ensures.size) in
    let first_two_fit : FitsSigned w128 (c.weighted-a.result +ℤ c.weighted-b.result) =
    omega (arith, ints, c.weighted-a.ensures.size, c.weighted-b.ensures.size) in
    let all_three_fit : FitsSigned w128 ((c.weighted-a.result +ℤ c.weighted-b.result) +ℤ c.weighted-c.result) =
    omega (arith, ints, c.weighted-a.ensures.size, c.weighted-b.ensures.size, c.weighted-c.ensures.size) in
    simp to_z-of_z
    (omega (arith, ints, c.weighted-a.ensures.size, c.weighted-b.ensures.size, c.weighted-c.ensures.size))
