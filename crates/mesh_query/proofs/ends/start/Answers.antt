-- The triangle that holds the place gives the start.
use Rattle.std.proofs.Common.{arith, FitsSigned, w64}
use Rattle.std.proofs.lemmas.Int.{ints, to_z-of_z}
use Rattle.mesh_query.proofs.Listing.{start_is}
use Rattle.mesh_query.proofs.ends.start.Goals as goal

pub returns : goal.returns
returns c =
    let p = c.args.place.now in
    let u_fits : FitsSigned w64 p.u = omega (arith, ints, c.requires.place) in
    let v_fits : FitsSigned w64 p.v = omega (arith, ints, c.requires.place) in
    let area_fits : FitsSigned w64 c.area.result = omega (arith, ints, c.area.ensures.size) in
    let lift_fits : FitsSigned w64 c.lift.result = omega (arith, ints, c.lift.ensures.size) in
    let h = simp to_z-of_z at c.holder.ensures in
    simp to_z-of_z
    (start_is c.args.tris.now p c.holder.result _ c.area.result c.lift.result c.requires.covers.counter_clockwise h
    c.area.ensures.value c.lift.ensures.value c.area.ensures.size c.lift.ensures.size)
