-- All numbers fit 128 bits.
use Rattle.std.proofs.Common.{arith, FitsSigned}
use Rattle.std.specs.Prelude.{◌-ℤ◌}
use Rattle.std.specs.Int.{w128}
use Rattle.std.proofs.lemmas.Int.{ints, to_z-of_z}
use Rattle.polynomial.proofs.Signs.{times_pos}
use Rattle.mesh_plane.specs.Plane.{doubled_area}
use Rattle.mesh_plane.proofs.gap.height_gap.Goals as goal

pub overflow_sub-difference : goal.overflow_sub-difference
overflow_sub-difference c =
    let lift_fits : FitsSigned w128 c.lift.result = omega (arith, ints, c.lift.ensures.size) in
    let weighted_fits : FitsSigned w128 c.weighted.result = omega (arith, ints, c.weighted.ensures.size) in
    simp to_z-of_z (omega (arith, ints, c.lift.ensures.size, c.weighted.ensures.size))

pub abs-requires : goal.abs-requires
abs-requires c =
    let lift_fits : FitsSigned w128 c.lift.result = omega (arith, ints, c.lift.ensures.size) in
    let weighted_fits : FitsSigned w128 c.weighted.result = omega (arith, ints, c.weighted.ensures.size) in
    let difference_fits : FitsSigned w128 (c.lift.result -ℤ c.weighted.result) =
    omega (arith, ints, c.lift.ensures.size, c.weighted.ensures.size) in
    simp to_z-of_z (omega (arith, ints, c.lift.ensures.size, c.weighted.ensures.size))

pub returns-clause-over : goal.returns-clause-over
returns-clause-over c =
    let scale_range = c.ranges.scale in
    let u_range = c.ranges.u in
    let v_range = c.ranges.v in
    let metres_range = c.ranges.metres in
    let area_fits : FitsSigned w128 c.area_at-under.result = omega (arith, ints, c.area_at-under.ensures.size) in
    let lift_fits : FitsSigned w128 c.lift.result = omega (arith, ints, c.lift.ensures.size) in
    let weighted_fits : FitsSigned w128 c.weighted.result = omega (arith, ints, c.weighted.ensures.size) in
    let difference_fits : FitsSigned w128 (c.lift.result -ℤ c.weighted.result) =
    omega (arith, ints, c.lift.ensures.size, c.weighted.ensures.size) in
    let area_value = simp to_z-of_z at c.area_at-under.ensures.value in
    let lift_value = simp to_z-of_z at c.lift.ensures.value in
    let weighted_value = simp to_z-of_z at c.weighted.ensures.value in
    let distance_value = simp to_z-of_z at c.abs.ensures.value in
    let distance_fits : FitsSigned w128 c.abs.result =
    omega (arith, ints, distance_value, c.lift.ensures.size, c.weighted.ensures.size) in
    simp to_z-of_z (cc (area_value, lift_value, weighted_value, distance_value))

pub returns-clause-under : goal.returns-clause-under
returns-clause-under c =
    let r = c.ranges.scale in
    let f : FitsSigned w128 c.area_at-under.result = omega (arith, ints, c.area_at-under.ensures.size) in
    let e = simp to_z-of_z at c.area_at-under.ensures.value in
    simp to_z-of_z e

pub returns-clause-above_zero : goal.returns-clause-above_zero
returns-clause-above_zero c =
    let r = c.ranges.scale in
    let f : FitsSigned w128 c.area_at-under.result = omega (arith, ints, c.area_at-under.ensures.size) in
    let e = simp to_z-of_z at c.area_at-under.ensures.value in
    simp to_z-of_z
    (omega (
      arith,
      ints,
      e,
      times_pos c.args.scale (doubled_area c.args.tri.now)
          (omega (arith, ints, c.requires.scale)) c.requires.counter_clockwise,
    ))
