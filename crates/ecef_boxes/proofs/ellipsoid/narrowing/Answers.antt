use Rattle.std.proofs.Common.{arith, refl, ◌^◌, ◌*◌}
use Rattle.std.proofs.lemmas.Int.{ints}
use Rattle.std.specs.Prelude.{pos}
use Rattle.ecef_boxes.specs.Box.{narrowing_of}
use Rattle.ecef_boxes.proofs.Sizes.{within_power}
use Rattle.ecef_boxes.proofs.Radii.{deducted_inside, eccentricity_inside, whole_inside}
use Rattle.ecef_boxes.proofs.ellipsoid.narrowing.Goals as goal

pub mul-requires-2-clause-a : goal.mul-requires-2-clause-a
mul-requires-2-clause-a c = rw c.eccentricity.ensures (within_power (2 ^ 41) 76 _ (omega arith) eccentricity_inside)

pub mul-requires-2-clause-b : goal.mul-requires-2-clause-b
mul-requires-2-clause-b c = rw c.mul.ensures.exact
    (within_power (81 * 2 ^ 42) 50 _ (omega arith) (deducted_inside c.args.sine.now c.requires).0)

pub sub-requires-clause-a : goal.sub-requires-clause-a
sub-requires-clause-a c = rw c.exactly.ensures
    (within_power (1 * 2 ^ 48) 100 _ (omega arith) (whole_inside (pos 1) 1 (omega (arith, ints))))

pub sub-requires-clause-b : goal.sub-requires-clause-b
sub-requires-clause-b c = rw (c.mul-2.ensures.exact, c.eccentricity.ensures, c.mul.ensures.exact)
    (within_power (81 * 2 ^ 35) 100 _ (omega arith) (deducted_inside c.args.sine.now c.requires).1)

pub returns : goal.returns
unfolding narrowing_of
returns c = rw (
  c.sub.ensures.exact,
  c.mul-2.ensures.exact,
  c.mul.ensures.exact,
  c.exactly.ensures,
  c.eccentricity.ensures,
) refl
