use Rattle.std.proofs.Common.{◌≡◌, arith, FitsSigned, to_z}
use Rattle.std.proofs.lemmas.Int.{ints, to_z-of_z, to_z_pos}
use Rattle.std.specs.Prelude.{pos, ◌-ℤ◌}
use mir.Syntax.{w128}
use Rattle.ecef_boxes.specs.Box.{longitude_of}
use Rattle.ecef_boxes.proofs.Turns.{half_turn_inside}
use Rattle.ecef_boxes.proofs.frame.longitude.Goals as goal

pub returns : goal.returns
unfolding longitude_of
returns c =
    let p = c.args.place.p in
    let d = c.args.place.d in
    let p_is : to_z w128 p ≡ pos p = to_z_pos w128 p (omega (arith, c.requires.turn, c.requires.fine)) in
    let d_is : to_z w128 d ≡ pos d = to_z_pos w128 d (omega (arith, c.requires.fine)) in
    let n_fits : FitsSigned w128 (pos p -ℤ pos d) =
    omega (arith, ints, c.requires.turn, c.requires.fine) in
    let exact = simp to_z-of_z at (rw (p_is, d_is) at c.half_turn.ensures.exact) in
    let inside = half_turn_inside (pos p -ℤ pos d) d c.requires.positive in
    record { exact = exact; sine = rw exact inside.sine; cosine = rw exact inside.cosine }
