-- The side of the third corner is the area.
use Rattle.std.proofs.Common.{arith, FitsSigned, w64}
use Rattle.std.specs.Prelude.{pos}
use Rattle.std.proofs.lemmas.Int.{ints, to_z-of_z}
use Rattle.polynomial.proofs.Signs.{times_pos}
use Rattle.mesh_plane.specs.Plane.{doubled_area}
use Rattle.lattice_sweep.proofs.Areas.{area_side}
use Rattle.lattice_sweep.proofs.plane.area.Goals as goal

pub returns-clause-value : goal.returns-clause-value
returns-clause-value c =
    let t = c.args.tri.now in
    let side_fits : FitsSigned w64 c.side.result = omega (arith, ints, c.side.ensures.size) in
    let corner_u_fits : FitsSigned w64 t.c.u = omega (arith, ints, c.requires.on_tile.c) in
    let corner_v_fits : FitsSigned w64 t.c.v = omega (arith, ints, c.requires.on_tile.c) in
    let scaled_u_fits : FitsSigned w64 c.scaled.result =
    omega (arith, ints, c.scaled.ensures.low, c.scaled.ensures.high) in
    let scaled_v_fits : FitsSigned w64 c.scaled-2.result =
    omega (arith, ints, c.scaled-2.ensures.low, c.scaled-2.ensures.high) in
    let scaled_u_value = simp to_z-of_z at c.scaled.ensures.value in
    let scaled_v_value = simp to_z-of_z at c.scaled-2.ensures.value in
    let side_value = simp to_z-of_z at c.side.ensures.value in
    let side_is_area = area_side t (pos 10125) in
    simp to_z-of_z (cc (scaled_u_value, scaled_v_value, side_value, side_is_area))

pub returns-clause-above_zero : goal.returns-clause-above_zero
returns-clause-above_zero c =
    let t = c.args.tri.now in
    let side_fits : FitsSigned w64 c.side.result = omega (arith, ints, c.side.ensures.size) in
    let area_value = simp to_z-of_z at (returns-clause-value c) in
    simp to_z-of_z (omega (
      arith,
      ints,
      area_value,
      times_pos (pos 10125) (doubled_area t) (omega (arith, ints)) c.requires.counter_clockwise,
    ))
