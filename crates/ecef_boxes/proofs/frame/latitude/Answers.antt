use Rattle.std.proofs.Common.{◌≡◌, ◌*◌, arith, FitsSigned, to_z}
use Rattle.std.proofs.lemmas.Int.{ints, to_z-of_z, to_z_pos}
use Rattle.std.specs.Prelude.{pos, ◌-ℤ◌, ◌*ℤ◌}
use mir.Syntax.{w128}
use Rattle.ecef_boxes.specs.Box.{latitude_of}
use Rattle.ecef_boxes.proofs.Turns.{half_turn_inside}
use Rattle.ecef_boxes.proofs.frame.latitude.Goals as goal

pub returns : goal.returns
unfolding latitude_of
returns c =
    let q = c.args.place.q in
    let d = c.args.place.d in
    let q_is : to_z w128 q ≡ pos q = to_z_pos w128 q (omega (arith, c.requires.pole, c.requires.fine)) in
    let d_is : to_z w128 d ≡ pos d = to_z_pos w128 d (omega (arith, c.requires.fine)) in
    let q_fits : FitsSigned w128 (pos 2 *ℤ pos q) = omega (arith, ints, c.requires.pole, c.requires.fine) in
    let d_fits : FitsSigned w128 (pos 2 *ℤ pos d) = omega (arith, ints, c.requires.fine) in
    let n_fits : FitsSigned w128 ((pos 2 *ℤ pos q) -ℤ pos d) =
    omega (arith, ints, c.requires.pole, c.requires.fine) in
    let exact = simp to_z-of_z at (rw (q_is, d_is) at c.half_turn.ensures.exact) in
    let inside = half_turn_inside (pos (2 * q) -ℤ pos d) (2 * d) (omega (arith, c.requires.positive)) in
    record { exact = exact; sine = rw exact inside.sine; cosine = rw exact inside.cosine }
