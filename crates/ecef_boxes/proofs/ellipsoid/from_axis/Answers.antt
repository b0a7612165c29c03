use Rattle.std.proofs.Common.{◌≡◌, arith, refl, rules, FitsSigned, ◌^◌, ◌*◌}
use Rattle.std.proofs.lemmas.Int.{to_z-of_z}
use mir.Syntax.{w128}
use Rattle.ecef_boxes.specs.Box.{from_axis_of}
use Rattle.ecef_boxes.proofs.Sizes.{within_power}
use Rattle.ecef_boxes.proofs.Radii.{from_axis_inside, raised_inside, whole_inside}
use Rattle.ecef_boxes.proofs.ellipsoid.from_axis.Goals as goal

pub add-requires-clause-a : goal.add-requires-clause-a
add-requires-clause-a c = within_power _ 100 _ (omega arith) c.requires.radii

pub add-requires-clause-b : goal.add-requires-clause-b
add-requires-clause-b c =
    let metres : FitsSigned w128 c.args.metres = search rules in
    let height = simp to_z-of_z at c.exactly.ensures in
    rw height
    (within_power (16000 * 2 ^ 48) 100 _ (omega arith) (whole_inside c.args.metres 16000 c.requires.metres))

pub mul-requires-clause-a : goal.mul-requires-clause-a
mul-requires-clause-a c =
    let metres : FitsSigned w128 c.args.metres = search rules in
    let height = simp to_z-of_z at c.exactly.ensures in
    rw (c.add.ensures.exact, height)
    (within_power (6444360 * 2 ^ 48) 76 _ (omega arith)
    (raised_inside c.args.radii.now c.args.metres c.requires.radii c.requires.metres))

pub mul-requires-clause-b : goal.mul-requires-clause-b
mul-requires-clause-b c = within_power _ 50 _ (omega arith) c.requires.cosine

pub returns : goal.returns
unfolding from_axis_of
returns c =
    let metres : FitsSigned w128 c.args.metres = search rules in
    let height = simp to_z-of_z at c.exactly.ensures in
    let exact : c.mul.result ≡ from_axis_of c.args.radii.now c.args.metres c.args.cosine.now =
    rw (c.mul.ensures.exact, c.add.ensures.exact, height) refl in
    record {
      exact = exact;
      size = rw exact (from_axis_inside c.args.radii.now c.args.metres c.args.cosine.now c.requires.radii
          c.requires.metres c.requires.cosine);
    }
