use Rattle.std.proofs.Common.{◌≡◌, refl, rules, FitsSigned}
use Rattle.std.proofs.lemmas.Int.{to_z-of_z}
use mir.Syntax.{w16, w128}
use Rattle.ecef_boxes.specs.Box.{box_of, latitude_of, longitude_of, radii_at, radii_of}
use Rattle.ecef_boxes.specs.Lines.{crossing}
use Rattle.ecef_boxes.proofs.Enclosing.{box_encloses}
use Rattle.ecef_boxes.proofs.GridLines.{crossing_place, meridian_inside, meridian_turn, parallel_inside, parallel_radii}
use Rattle.ecef_boxes.proofs.GridLines.{parallel_turn, radii_inside}
use Rattle.ecef_boxes.proofs.line.box_at.Goals as goal

pub from_axis-out-requires-clause-radii : goal.from_axis-out-requires-clause-radii
from_axis-out-requires-clause-radii c = radii_inside c.args.parallel.now c.requires.parallel

pub from_axis-out-requires-clause-cosine : goal.from_axis-out-requires-clause-cosine
from_axis-out-requires-clause-cosine c = (parallel_inside c.args.parallel.now c.requires.parallel).1

pub sideways-requires-clause-part : goal.sideways-requires-clause-part
sideways-requires-clause-part c = (meridian_inside c.args.meridian.now c.requires.meridian).1

pub sideways-requires-2-clause-part : goal.sideways-requires-2-clause-part
sideways-requires-2-clause-part c = (meridian_inside c.args.meridian.now c.requires.meridian).0

pub along_axis-requires-clause-radii : goal.along_axis-requires-clause-radii
along_axis-requires-clause-radii c = radii_inside c.args.parallel.now c.requires.parallel

pub along_axis-requires-clause-sine : goal.along_axis-requires-clause-sine
along_axis-requires-clause-sine c = (parallel_inside c.args.parallel.now c.requires.parallel).0

pub returns : goal.returns
unfolding box_of radii_at
returns c =
    let small : FitsSigned w16 c.args.metres = search rules in
    let metres : FitsSigned w128 c.args.metres = search rules in
    let m = c.args.meridian.now in
    let n = c.args.parallel.now in
    let place = crossing m n in
    let out = simp to_z-of_z at c.from_axis-out.ensures.exact in
    let along = simp to_z-of_z at c.along_axis.ensures.exact in
    let radii : n.radii ≡ radii_of n.turn.sine = parallel_radii n c.requires.parallel in
    let north : n.turn ≡ latitude_of place = parallel_turn m n c.requires.parallel c.requires.units in
    let east : m.turn ≡ longitude_of place = meridian_turn m n c.requires.meridian in
    let exact : c.ends.result ≡ box_of place c.args.metres =
    rw (c.ends.ensures.exact, c.sideways.ensures.exact, c.sideways-2.ensures.exact, along, out, radii, north, east) refl in
    record {
      exact = exact;
      encloses = rw exact (box_encloses place c.args.metres (crossing_place m n c.requires.meridian c.requires.parallel c.requires.units));
      size = c.ends.ensures.size;
    }
