-- The area is above 0.
use Rattle.std.proofs.Common.{arith, FitsSigned}
use Rattle.std.specs.Int.{w128}
use Rattle.std.proofs.lemmas.Int.{ints, to_z-of_z}
use Rattle.polynomial.proofs.Signs.{times_pos}
use Rattle.mesh_plane.specs.Plane.{doubled_area}
use Rattle.mesh_plane.proofs.gap.plane_height.Goals as goal

pub returns-clause-above_zero : goal.returns-clause-above_zero
returns-clause-above_zero c =
    let r = c.ranges.scale in
    let f : FitsSigned w128 c.area_at.result = omega (arith, ints, c.area_at.ensures.size) in
    let e = simp to_z-of_z at c.area_at.ensures.value in
    simp to_z-of_z
    (omega (
      arith,
      ints,
      e,
      times_pos c.args.scale (doubled_area c.args.tri.now)
          (omega (arith, ints, c.requires.scale)) c.requires.counter_clockwise,
    ))
