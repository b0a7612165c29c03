-- The box of a place has small numbers.
use Rattle.std.proofs.Common.{◌*◌, ◌^◌, ◌≤◌, arith}
use Rattle.std.specs.Prelude.{ℤ, unsigned_abs}
use Rattle.std.proofs.lemmas.Int.{ints}
use Rattle.tms_tree.specs.declared.place.Place.{Place}
use Rattle.tms_tree.specs.Place.{IsPlace}
use Rattle.whole_interval.specs.declared.interval.Interval.{Interval}
use Rattle.ecef_boxes.specs.Bounds.{IsBoxWithin, IsInside}
use Rattle.ecef_boxes.specs.Box.{box_of, ends_of, latitude_of, longitude_of, radii_at}
use Rattle.ecef_boxes.proofs.Ends.{down_size, up_size}
use Rattle.ecef_boxes.proofs.Radii.{radii_bounds, from_axis_inside, along_axis_inside, sideways_inside}
use Rattle.ecef_boxes.proofs.Turns.{AreInside, half_turn_inside}

size_low : (a : Interval) → IsInside (521993160 * 2 ^ 42) a → unsigned_abs a.lo ≤ 521993160 * 2 ^ 42
size_low a h = omega (arith, ints, h.low, h.ordered, h.high)

size_high : (a : Interval) → IsInside (521993160 * 2 ^ 42) a → unsigned_abs a.hi ≤ 521993160 * 2 ^ 42
size_high a h = omega (arith, ints, h.low, h.ordered, h.high)

ends_small : (x y z : Interval) → IsInside (521993160 * 2 ^ 42) x → IsInside (521993160 * 2 ^ 42) y → IsInside (521993160 * 2 ^ 42) z → IsBoxWithin 31 (ends_of x y z)
unfolding ends_of
ends_small x y z h k l = record {
  x_lo = down_size x.lo (size_low x h);
  x_hi = up_size x.hi (size_high x h);
  y_lo = down_size y.lo (size_low y k);
  y_hi = up_size y.hi (size_high y k);
  z_lo = down_size z.lo (size_low z l);
  z_hi = up_size z.hi (size_high z l);
}

wider : (a : Interval) → IsInside (57999240 * 2 ^ 45) a → IsInside (521993160 * 2 ^ 42) a
wider a h = record { low = omega (arith, ints, h.low); ordered = h.ordered; high = omega (arith, ints, h.high) }

north_inside : (place : Place) → IsPlace place → AreInside (9 * 2 ^ 45) (latitude_of place)
unfolding latitude_of
north_inside place h = half_turn_inside _ (2 * place.d) (omega (arith, h.positive))

east_inside : (place : Place) → IsPlace place → AreInside (9 * 2 ^ 45) (longitude_of place)
unfolding longitude_of
east_inside place h = half_turn_inside _ place.d h.positive

radii_inside : (place : Place) → IsPlace place → IsInside (6428360 * 2 ^ 48) (radii_at place)
unfolding radii_at
radii_inside place h = (radii_bounds (latitude_of place).sine (north_inside place h).sine).inside

pub box_small : (place : Place) (metres : ℤ) → IsPlace place → unsigned_abs metres ≤ 16000 → IsBoxWithin 31 (box_of place metres)
unfolding box_of
box_small place metres h m =
    let r = radii_inside place h in
    let n = north_inside place h in
    let e = east_inside place h in
    let out = from_axis_inside (radii_at place) metres (latitude_of place).cosine r m n.cosine in
    ends_small _ _ _ (sideways_inside _ _ out e.cosine) (sideways_inside _ _ out e.sine)
    (wider _ (along_axis_inside (radii_at place) metres (latitude_of place).sine r m n.sine))
