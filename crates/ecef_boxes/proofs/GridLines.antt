-- Meridians and parallels.
use Rattle.std.proofs.Common.{◌≡◌, ◌*◌, ◌<◌, ◌≤◌, ◌^◌, ap, refl, ◌∙◌, arith}
use Rattle.std.specs.Prelude.{ℕ, ℤ, pos, ◌-ℤ◌}
use Rattle.whole_interval.specs.declared.interval.Interval.{Interval}
use Rattle.whole_interval.specs.declared.sine_cosine.SineCosine.{SineCosine}
use Rattle.tms_tree.specs.declared.place.Place.{Place}
use Rattle.tms_tree.specs.Place.{IsPlace}
use Rattle.ecef_boxes.specs.declared.ecef_box.EcefBox.{EcefBox}
use Rattle.ecef_boxes.specs.declared.line.Meridian.{Meridian}
use Rattle.ecef_boxes.specs.declared.line.Parallel.{Parallel}
use Rattle.ecef_boxes.specs.Bounds.{IsInside}
use Rattle.ecef_boxes.specs.Box.{box_of, latitude_of, longitude_of, radii_of}
use Rattle.ecef_boxes.specs.Lines.{IsMeridian, IsParallel, crossing, meridian_of, parallel_of}
use Rattle.ecef_boxes.proofs.Radii.{radii_bounds}
use Rattle.ecef_boxes.proofs.Turns.{half_turn_inside}

-- ---- the numbers of a grid line

pub meridian_place : (p d : ℕ) → 0 < d → d ≤ 2 ^ 29 → p ≤ 2 * d → IsPlace (record { p = p; q = 0; d = d })
meridian_place p d h k l = record { positive = h; fine = k; turn = l; pole = omega arith }

pub parallel_place : (q d : ℕ) → 0 < d → d ≤ 2 ^ 29 → q ≤ d → IsPlace (record { p = 0; q = q; d = d })
parallel_place q d h k l = record { positive = h; fine = k; turn = omega arith; pole = l }

pub longitude_is : (place : Place) → longitude_of place ≡ (meridian_of place.p place.d).turn
unfolding longitude_of
longitude_is place = refl

pub latitude_is : (place : Place) → latitude_of place ≡ (parallel_of place.q place.d).turn
unfolding latitude_of
latitude_is place = refl

same_meridian : (p d : ℕ) (turn : SineCosine) → turn ≡ (meridian_of p d).turn
    → ◌≡◌ {A = Meridian} (record { p = p; d = d; turn = turn }) (meridian_of p d)
same_meridian p d turn e = rw e refl

pub meridian_is : (p d : ℕ) (turn : SineCosine) → turn ≡ longitude_of (record { p = p; q = 0; d = d })
    → ◌≡◌ {A = Meridian} (record { p = p; d = d; turn = turn }) (meridian_of p d)
unfolding longitude_of
meridian_is p d turn e = same_meridian p d turn e

same_parallel : (q d : ℕ) (turn : SineCosine) (radii : Interval) → turn ≡ (parallel_of q d).turn → radii ≡ radii_of turn.sine
    → ◌≡◌ {A = Parallel} (record { q = q; d = d; turn = turn; radii = radii }) (parallel_of q d)
same_parallel q d turn radii e f = rw (f, e) refl

pub parallel_is : (q d : ℕ) (turn : SineCosine) (radii : Interval) → turn ≡ latitude_of (record { p = 0; q = q; d = d })
    → radii ≡ radii_of turn.sine
    → ◌≡◌ {A = Parallel} (record { q = q; d = d; turn = turn; radii = radii }) (parallel_of q d)
unfolding latitude_of
parallel_is q d turn radii e f = same_parallel q d turn radii e f

-- ---- the place where two lines cross

pub crossing_place : (m : Meridian) (n : Parallel) → IsMeridian m → IsParallel n → m.d ≡ n.d → IsPlace (crossing m n)
crossing_place m n h k e = record {
  positive = h.positive;
  fine = h.fine;
  turn = h.turn;
  pole = (let pole = k.pole in omega (arith, e, pole));
}

pub meridian_turn : (m : Meridian) (n : Parallel) → IsMeridian m → m.turn ≡ longitude_of (crossing m n)
unfolding longitude_of
meridian_turn m n h = ap (λ a. a.turn) h.bounds

turn_at : (q c d : ℕ) (turn : SineCosine) → c ≡ d → turn ≡ (parallel_of q d).turn → turn ≡ (parallel_of q c).turn
turn_at q c d turn e f = rw e f

pub parallel_turn : (m : Meridian) (n : Parallel) → IsParallel n → m.d ≡ n.d → n.turn ≡ latitude_of (crossing m n)
unfolding latitude_of
parallel_turn m n h e = turn_at n.q m.d n.d n.turn e (ap (λ a. a.turn) h.bounds)

radii_from : (q d : ℕ) (n : Parallel) → n ≡ parallel_of q d → n.radii ≡ radii_of n.turn.sine
radii_from q d n e = rw e refl

pub parallel_radii : (n : Parallel) → IsParallel n → n.radii ≡ radii_of n.turn.sine
parallel_radii n h = radii_from n.q n.d n h.bounds

-- ---- sizes

inside_at : (d : ℕ) (a b : SineCosine) → a ≡ b → IsInside (9 * 2 ^ 45) b.sine × IsInside (9 * 2 ^ 45) b.cosine
    → IsInside (9 * 2 ^ 45) a.sine × IsInside (9 * 2 ^ 45) a.cosine
inside_at d a b e h = rw e h

pub meridian_inside : (m : Meridian) → IsMeridian m → IsInside (9 * 2 ^ 45) m.turn.sine × IsInside (9 * 2 ^ 45) m.turn.cosine
meridian_inside m h =
    let inside = half_turn_inside (pos m.p -ℤ pos m.d) m.d h.positive in
    inside_at m.d m.turn (meridian_of m.p m.d).turn (ap (λ a. a.turn) h.bounds) (inside.sine, inside.cosine)

pub parallel_inside : (n : Parallel) → IsParallel n → IsInside (9 * 2 ^ 45) n.turn.sine × IsInside (9 * 2 ^ 45) n.turn.cosine
parallel_inside n h =
    let inside = half_turn_inside (pos (2 * n.q) -ℤ pos n.d) (2 * n.d) (let some = h.positive in omega (arith, some)) in
    inside_at n.d n.turn (parallel_of n.q n.d).turn (ap (λ a. a.turn) h.bounds) (inside.sine, inside.cosine)

pub radii_inside : (n : Parallel) → IsParallel n → IsInside (6428360 * 2 ^ 48) n.radii
radii_inside n h = rw (parallel_radii n h) (radii_bounds n.turn.sine (parallel_inside n h).0).inside

-- ---- for the code
made_meridian_at : (p d : ℕ) → 0 < d → d ≤ 2 ^ 29 → p ≤ 2 * d → IsMeridian (meridian_of p d)
made_meridian_at p d h k l = record { positive = h; fine = k; turn = l; bounds = refl }

pub made_meridian : (p d : ℕ) (m : Meridian) → m ≡ meridian_of p d → 0 < d → d ≤ 2 ^ 29 → p ≤ 2 * d → IsMeridian m
made_meridian p d m e h k l = rw e (made_meridian_at p d h k l)

made_parallel_at : (q d : ℕ) → 0 < d → d ≤ 2 ^ 29 → q ≤ d → IsParallel (parallel_of q d)
made_parallel_at q d h k l = record { positive = h; fine = k; pole = l; bounds = refl }

pub made_parallel : (q d : ℕ) (n : Parallel) → n ≡ parallel_of q d → 0 < d → d ≤ 2 ^ 29 → q ≤ d → IsParallel n
made_parallel q d n e h k l = rw e (made_parallel_at q d h k l)

pub crossed : (place : Place) (metres : ℤ) (m : Meridian) (n : Parallel) (box : EcefBox) → m ≡ meridian_of place.p place.d
    → n ≡ parallel_of place.q place.d → box ≡ box_of (crossing m n) metres → box ≡ box_of place metres
crossed place metres m n box e f g = g ∙ ap (λ a. box_of (crossing a n) metres) e
    ∙ ap (λ b. box_of (crossing (meridian_of place.p place.d) b) metres) f
