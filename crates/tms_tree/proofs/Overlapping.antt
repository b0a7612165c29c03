-- The test of overlap is the relation: a point that both have inside.
use Rattle.std.specs.Prelude.{◌≡◌, ℕ, ◌+◌, ◌*◌, ◌^◌, ◌<◌, ◌≤◌, ◌↔◌, Bool, true, nat_lt, max, min, IsTrue}
use Rattle.std.proofs.Common.{arith, inl, inr}
use Rattle.std.proofs.lemmas.Bool.{and_parts, and_from, ltb-true, lt-ltb}
use Rattle.std.proofs.lemmas.Nat.{pow_pos}
use Rattle.std.proofs.Math.Nat.{lt_of_mul-lt-mul_right, mul-lt-mul_of_pos_right, mul-le-mul_right}
use Rattle.terrain_base.specs.declared.square.Square.{Square}
use Rattle.terrain_base.specs.declared.tile.TileId.{TileId}
use Rattle.tms_tree.specs.Degrees.{Span, IsInside, turned, stripe_span, degree_span}
use Rattle.tms_tree.specs.Touch.{crosses_at, overlaps_of, Overlaps}
use Rattle.tms_tree.proofs.Turns.{by_turns_inside}
use Rattle.tms_tree.proofs.Touching.{doubled}

pub record Crosses (p stripe degree : ℕ) : Type 0 where
  pub below : 180 * stripe < (degree + 1) * p
  pub above : degree * p < 180 * (stripe + 1)

crosses_from : (z stripe degree : ℕ) → Crosses (2 ^ z) stripe degree → crosses_at z stripe degree ≡ true
crosses_from z stripe degree h = and_from _ _ (lt-ltb _ _ h.below) (lt-ltb _ _ h.above)

crosses_parts : (z stripe degree : ℕ) → crosses_at z stripe degree ≡ true → Crosses (2 ^ z) stripe degree
crosses_parts z stripe degree h =
    let both = and_parts (nat_lt (180 * stripe) ((degree + 1) * 2 ^ z)) (nat_lt (degree * 2 ^ z) (180 * (stripe + 1))) h in
    record { below = ltb-true _ _ both.0; above = ltb-true _ _ both.1 }

-- ---- from the shared point

share_parallel : (p stripe degree n m : ℕ) → 0 < p → (180 * stripe) * m < n * p → n * p < (180 * (stripe + 1)) * m → degree * m < n → n < (degree + 1) * m → Crosses p stripe degree
share_parallel p stripe degree n m pos h1 h2 h3 h4 =
    let up : n * p < ((degree + 1) * m) * p = mul-lt-mul_of_pos_right h4 pos in
    let down : (degree * m) * p < n * p = mul-lt-mul_of_pos_right h3 pos in
    record { below = lt_of_mul-lt-mul_right m (omega (arith, up, h1)); above = lt_of_mul-lt-mul_right m (omega (arith, down, h2)) }

share_meridian : (p stripe degree n m a b c f : ℕ) → 0 < p → stripe + 1 ≤ 2 * p → degree < 360
    → (180 * stripe + 360 * c * p) * m < (n + 360 * a * m) * p → (n + 360 * a * m) * p < (180 * (stripe + 1) + 360 * c * p) * m
    → (degree + 360 * f) * m < n + 360 * b * m → n + 360 * b * m < (degree + 1 + 360 * f) * m
    → Crosses p stripe degree
share_meridian p stripe degree n m a b c f pos within turn h1 h2 h3 h4 =
    let up : (n + 360 * b * m) * p < ((degree + 1 + 360 * f) * m) * p = mul-lt-mul_of_pos_right h4 pos in
    let down : ((degree + 360 * f) * m) * p < (n + 360 * b * m) * p = mul-lt-mul_of_pos_right h3 pos in
    elim (by_turns_inside ((180 * stripe) * m) ((180 * (stripe + 1)) * m) ((degree * p) * m) (((degree + 1) * p) * m) (n * p) (p * m) a b c f
    (omega (arith, h1)) (omega (arith, h2)) (omega (arith, down)) (omega (arith, up))) [
      | inl w ↦ record { below = lt_of_mul-lt-mul_right m w.0; above = lt_of_mul-lt-mul_right m w.1 }
      | inr s ↦ elim s [
        | inl w ↦ let most : (stripe + 1) * m ≤ (2 * p) * m = mul-le-mul_right m within in absurd (omega (arith, w, most))
        | inr w ↦ let most : (degree + 1) * (p * m) ≤ 360 * (p * m) = mul-le-mul_right (p * m) (omega arith) in absurd (omega (arith, w, most))
      ]
    ]

pub overlaps_from : (tile : TileId) (square : Square) → Overlaps tile square → overlaps_of tile square ≡ true
unfolding overlaps_of
overlaps_from tile square h =
    let p : 0 < 2 ^ tile.z = pow_pos tile.z in
    let tile_lon = h.of_tile.longitude in
    let square_lon = h.of_square.longitude in
    let last : tile.x + 1 ≤ 2 * 2 ^ tile.z = omega (arith, doubled tile.z, tile.x_in_range) in
    and_from (crosses_at tile.z tile.y square.lat) (crosses_at tile.z tile.x square.lon)
    (crosses_from tile.z tile.y square.lat (share_parallel (2 ^ tile.z) tile.y square.lat h.point.north h.point.parts p
    h.of_tile.latitude.above h.of_tile.latitude.below (omega (arith, h.of_square.latitude.above)) (omega (arith, h.of_square.latitude.below))))
    (crosses_from tile.z tile.x square.lon (share_meridian (2 ^ tile.z) tile.x square.lon h.point.east h.point.parts h.of_tile.point_turns h.of_square.point_turns h.of_tile.turns h.of_square.turns p last square.lon_in_range
    tile_lon.above tile_lon.below (omega (arith, square_lon.above)) (omega (arith, square_lon.below))))

-- ---- to a shared point

-- the middle between the greater beginning and the lesser end lies in both; there are twice as many parts
middle : ℕ → ℕ → ℕ → ℕ
middle p stripe degree = max (180 * stripe) (degree * p) + min (180 * (stripe + 1)) ((degree + 1) * p)

in_stripe : (z stripe degree : ℕ) → Crosses (2 ^ z) stripe degree → IsInside (middle (2 ^ z) stripe degree) (2 * 2 ^ z) (stripe_span z stripe)
unfolding middle
in_stripe z stripe degree h =
    let p : 0 < 2 ^ z = pow_pos z in
    let low : 2 * (180 * stripe) < max (180 * stripe) (degree * 2 ^ z) + min (180 * (stripe + 1)) ((degree + 1) * 2 ^ z) = omega (arith, h.below, h.above) in
    let high : max (180 * stripe) (degree * 2 ^ z) + min (180 * (stripe + 1)) ((degree + 1) * 2 ^ z) < 2 * (180 * (stripe + 1)) = omega (arith, h.below, h.above) in
    record { above = omega (arith, mul-lt-mul_of_pos_right low p); below = omega (arith, mul-lt-mul_of_pos_right high p) }

in_degree : (z stripe degree : ℕ) → Crosses (2 ^ z) stripe degree → IsInside (middle (2 ^ z) stripe degree) (2 * 2 ^ z) (degree_span degree)
unfolding middle
in_degree z stripe degree h =
    let p : 0 < 2 ^ z = pow_pos z in
    record { above = omega (arith, h.below, h.above); below = omega (arith, h.below, h.above) }

still : (n m : ℕ) (span : Span) → IsInside n m span → IsInside (n + 360 * 0 * m) m (turned 0 span)
still n m span h = record { above = omega (arith, h.above); below = omega (arith, h.below) }

pub overlaps_to : (tile : TileId) (square : Square) → overlaps_of tile square ≡ true → Overlaps tile square
unfolding overlaps_of
overlaps_to tile square h =
    let both = and_parts (crosses_at tile.z tile.y square.lat) (crosses_at tile.z tile.x square.lon) h in
    let rows = crosses_parts tile.z tile.y square.lat both.0 in
    let columns = crosses_parts tile.z tile.x square.lon both.1 in
    let p : 0 < 2 ^ tile.z = pow_pos tile.z in
    record {
      point = record { east = middle (2 ^ tile.z) tile.x square.lon; north = middle (2 ^ tile.z) tile.y square.lat; parts = 2 * 2 ^ tile.z };
      fraction = omega arith;
      of_tile = record {
        turns = 0;
        point_turns = 0;
        longitude = still _ _ (stripe_span tile.z tile.x) (in_stripe tile.z tile.x square.lon columns);
        latitude = in_stripe tile.z tile.y square.lat rows;
      };
      of_square = record {
        turns = 0;
        point_turns = 0;
        longitude = still _ _ (degree_span square.lon) (in_degree tile.z tile.x square.lon columns);
        latitude = in_degree tile.z tile.y square.lat rows;
      };
    }

pub overlaps_law : (tile : TileId) (square : Square) → IsTrue (overlaps_of tile square) ↔ Overlaps tile square
overlaps_law tile square = (overlaps_to tile square, overlaps_from tile square)

-- the law at an answer of the test
pub overlaps_at : (tile : TileId) (square : Square) (b : Bool) → b ≡ overlaps_of tile square → IsTrue b ↔ Overlaps tile square
overlaps_at tile square b e = rw e (overlaps_law tile square)
