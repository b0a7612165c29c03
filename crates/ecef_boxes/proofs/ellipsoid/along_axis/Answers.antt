use Rattle.std.proofs.Common.{◌≡◌, arith, refl, rules, FitsSigned, ◌^◌, ◌*◌}
use Rattle.std.proofs.lemmas.Int.{ints, to_z-of_z}
use Rattle.std.specs.Prelude.{pos}
use mir.Syntax.{w128}
use Rattle.ecef_boxes.specs.Box.{along_axis_of}
use Rattle.ecef_boxes.proofs.Sizes.{within_power}
use Rattle.ecef_boxes.proofs.Radii.{along_axis_inside, eccentricity_inside, flattened_inside, raised_inside}
use Rattle.ecef_boxes.proofs.Radii.{shortened_inside, whole_inside}
use Rattle.ecef_boxes.proofs.ellipsoid.along_axis.Goals as goal

pub sub-requires-clause-a : goal.sub-requires-clause-a
sub-requires-clause-a c = rw c.exactly.ensures
    (within_power (1 * 2 ^ 48) 100 _ (omega arith) (whole_inside (pos 1) 1 (omega (arith, ints))))

pub sub-requires-clause-b : goal.sub-requires-clause-b
sub-requires-clause-b c = rw c.eccentricity.ensures (within_power (2 ^ 41) 100 _ (omega arith) eccentricity_inside)

pub mul-shortened-requires-clause-a : goal.mul-shortened-requires-clause-a
mul-shortened-requires-clause-a c = within_power _ 76 _ (omega arith) c.requires.radii

pub mul-shortened-requires-clause-b : goal.mul-shortened-requires-clause-b
mul-shortened-requires-clause-b c = rw (c.sub.ensures.exact, c.exactly.ensures, c.eccentricity.ensures)
    (within_power (2 ^ 48) 50 _ (omega arith) flattened_inside)

pub add-requires-clause-a : goal.add-requires-clause-a
add-requires-clause-a c = rw (
  c.mul-shortened.ensures.exact,
  c.sub.ensures.exact,
  c.exactly.ensures,
  c.eccentricity.ensures,
) (within_power (6428360 * 2 ^ 48) 100 _ (omega arith) (shortened_inside c.args.radii.now c.requires.radii))

pub add-requires-clause-b : goal.add-requires-clause-b
add-requires-clause-b c =
    let metres : FitsSigned w128 c.args.metres = search rules in
    let height = simp to_z-of_z at c.exactly-2.ensures in
    rw height
    (within_power (16000 * 2 ^ 48) 100 _ (omega arith) (whole_inside c.args.metres 16000 c.requires.metres))

pub mul-requires-clause-a : goal.mul-requires-clause-a
mul-requires-clause-a c =
    let metres : FitsSigned w128 c.args.metres = search rules in
    let height = simp to_z-of_z at c.exactly-2.ensures in
    rw (
      c.add.ensures.exact,
      height,
      c.mul-shortened.ensures.exact,
      c.sub.ensures.exact,
      c.exactly.ensures,
      c.eccentricity.ensures,
    )
    (within_power (6444360 * 2 ^ 48) 76 _ (omega arith)
    (raised_inside _ c.args.metres (shortened_inside c.args.radii.now c.requires.radii) c.requires.metres))

pub mul-requires-clause-b : goal.mul-requires-clause-b
mul-requires-clause-b c = within_power _ 50 _ (omega arith) c.requires.sine

pub returns : goal.returns
unfolding along_axis_of
returns c =
    let metres : FitsSigned w128 c.args.metres = search rules in
    let height = simp to_z-of_z at c.exactly-2.ensures in
    let exact : c.mul.result ≡ along_axis_of c.args.radii.now c.args.metres c.args.sine.now =
    rw (
      c.mul.ensures.exact,
      c.add.ensures.exact,
      height,
      c.mul-shortened.ensures.exact,
      c.sub.ensures.exact,
      c.exactly.ensures,
      c.eccentricity.ensures,
    ) refl in
    record {
      exact = exact;
      size = rw exact (along_axis_inside c.args.radii.now c.args.metres c.args.sine.now c.requires.radii
          c.requires.metres c.requires.sine);
    }
