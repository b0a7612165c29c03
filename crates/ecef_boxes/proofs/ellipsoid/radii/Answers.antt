use Rattle.std.proofs.Common.{◌≡◌, arith, refl, ◌^◌, ◌*◌}
use Rattle.std.proofs.lemmas.Int.{ints}
use Rattle.std.specs.Prelude.{pos}
use Rattle.ecef_boxes.specs.Box.{radii_of}
use Rattle.ecef_boxes.specs.Ellipsoid.{semi_major_axis}
use Rattle.ecef_boxes.proofs.Sizes.{within_power}
use Rattle.ecef_boxes.proofs.Radii.{IsNarrowing, IsRootOfNarrowing, narrowing_bounds, radii_bounds, root_bounds}
use Rattle.ecef_boxes.proofs.Radii.{whole_inside}
use Rattle.ecef_boxes.proofs.ellipsoid.radii.Goals as goal

pub sqrt-requires : goal.sqrt-requires
sqrt-requires c =
    let n : IsNarrowing c.narrowing.result = rw c.narrowing.ensures (narrowing_bounds c.args.sine.now c.requires) in
    record {
      low = omega (arith, ints, n.low);
      ordered = n.ordered;
      high = omega (arith, ints, n.high);
    }

pub div_pos-requires : goal.div_pos-requires
div_pos-requires c =
    let n : IsNarrowing c.narrowing.result = rw c.narrowing.ensures (narrowing_bounds c.args.sine.now c.requires) in
    let r : IsRootOfNarrowing c.sqrt.result = rw c.sqrt.ensures.exact (root_bounds c.narrowing.result n) in
    record {
      a = rw c.exactly.ensures (within_power (semi_major_axis * 2 ^ 48) 76 _ (omega arith)
          (whole_inside (pos semi_major_axis) semi_major_axis (omega (arith, ints))));
      divisor = omega (arith, ints, r.low);
      ordered = r.ordered;
    }

pub returns : goal.returns
unfolding radii_of
returns c =
    let exact : c.div_pos.result ≡ radii_of c.args.sine.now = rw (
      c.div_pos.ensures.exact,
      c.sqrt.ensures.exact,
      c.exactly.ensures,
      c.narrowing.ensures,
    ) refl in
    let bounds = radii_bounds c.args.sine.now c.requires in
    record { exact = exact; positive = rw exact bounds.positive; size = rw exact bounds.inside }
