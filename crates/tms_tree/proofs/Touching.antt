-- The test of touch is the relation: a shared point.
use Rattle.std.specs.Prelude.{◌≡◌, ℕ, ◌+◌, ◌*◌, ◌^◌, ◌<◌, ◌≤◌, ◌==◌, ◌⊎◌, ◌↔◌, Bool, true, ◌&&◌, nat_le, max, IsTrue}
use Rattle.std.proofs.Common.{arith, inl, inr, ap, refl, add-one}
use Rattle.std.proofs.lemmas.Bool.{and_parts, and_from, or_cases, or_left, or_right, leb-true, le-leb, eqb-true, eq-eqb}
use Rattle.std.proofs.lemmas.Nat.{pow_pos}
use Rattle.std.proofs.Math.Nat.{le_of_mul-le-mul_right, mul-le-mul_right, le-mul_of_pos_right, pow-suc}
use Rattle.terrain_base.specs.declared.square.Square.{Square}
use Rattle.terrain_base.specs.declared.tile.TileId.{TileId}
use Rattle.tms_tree.specs.Degrees.{Span, IsWithin, turned, stripe_span, degree_span}
use Rattle.tms_tree.specs.Touch.{meets_at, wraps_at, round_meets_at, touches_of, Touches}
use Rattle.tms_tree.proofs.Turns.{by_turns}

-- ---- from the shared point

-- parts of a degree: p of the tile, m of the point
pub record Meets (p stripe degree : ℕ) : Type 0 where
  pub below : 180 * stripe ≤ (degree + 1) * p
  pub above : degree * p ≤ 180 * (stripe + 1)

pub meets_from : (z stripe degree : ℕ) → Meets (2 ^ z) stripe degree → meets_at z stripe degree ≡ true
meets_from z stripe degree h = and_from _ _ (le-leb _ _ h.below) (le-leb _ _ h.above)

pub meets_parts : (z stripe degree : ℕ) → meets_at z stripe degree ≡ true → Meets (2 ^ z) stripe degree
meets_parts z stripe degree h =
    let both = and_parts (nat_le (180 * stripe) ((degree + 1) * 2 ^ z)) (nat_le (degree * 2 ^ z) (180 * (stripe + 1))) h in
    record { below = leb-true _ _ both.0; above = leb-true _ _ both.1 }

share_parallel : (p stripe degree n m : ℕ) → 0 < m → (180 * stripe) * m ≤ n * p → n * p ≤ (180 * (stripe + 1)) * m → degree * m ≤ n → n ≤ (degree + 1) * m → Meets p stripe degree
share_parallel p stripe degree n m pos h1 h2 h3 h4 =
    let up : n * p ≤ ((degree + 1) * m) * p = mul-le-mul_right p h4 in
    let down : (degree * m) * p ≤ n * p = mul-le-mul_right p h3 in
    record {
      below = le_of_mul-le-mul_right {k = m} (omega (arith, up, h1)) pos;
      above = le_of_mul-le-mul_right {k = m} (omega (arith, down, h2)) pos;
    }

-- they share a meridian, or the one begins where the whole turn of the other ends
share_meridian : (p stripe degree n m a b c f : ℕ) → 0 < m
    → (180 * stripe + 360 * c * p) * m ≤ (n + 360 * a * m) * p → (n + 360 * a * m) * p ≤ (180 * (stripe + 1) + 360 * c * p) * m
    → (degree + 360 * f) * m ≤ n + 360 * b * m → n + 360 * b * m ≤ (degree + 1 + 360 * f) * m
    → Meets p stripe degree ⊎ ((360 * p + degree * p ≤ 180 * (stripe + 1)) ⊎ (360 * p + 180 * stripe ≤ (degree + 1) * p))
share_meridian p stripe degree n m a b c f pos h1 h2 h3 h4 =
    let up : (n + 360 * b * m) * p ≤ ((degree + 1 + 360 * f) * m) * p = mul-le-mul_right p h4 in
    let down : ((degree + 360 * f) * m) * p ≤ (n + 360 * b * m) * p = mul-le-mul_right p h3 in
    elim (by_turns ((180 * stripe) * m) ((180 * (stripe + 1)) * m) ((degree * p) * m) (((degree + 1) * p) * m) (n * p) (p * m) a b c f
    (omega (arith, h1)) (omega (arith, h2)) (omega (arith, down)) (omega (arith, up))) [
      | inl w ↦ inl (record { below = le_of_mul-le-mul_right {k = m} w.0 pos; above = le_of_mul-le-mul_right {k = m} w.1 pos })
      | inr s ↦ inr (elim s [
        | inl w ↦ inl (le_of_mul-le-mul_right {m = 360 * p + degree * p} {k = m} (omega (arith, w)) pos)
        | inr w ↦ inr (le_of_mul-le-mul_right {m = 360 * p + 180 * stripe} {k = m} (omega (arith, w)) pos)
      ])
    ]

pub doubled : (z : ℕ) → 2 ^ (z + 1) ≡ 2 ^ z + 2 ^ z
doubled z = rw add-one (omega (arith, pow-suc 2 z))

-- beyond the turn there is room for the meridian 180 alone
from_east : (z x degree : ℕ) → x < 2 ^ (z + 1) → 360 * 2 ^ z + degree * 2 ^ z ≤ 180 * (x + 1) → (x + 1 ≡ 2 ^ (z + 1)) × (degree ≡ 0)
from_east z x degree within h =
    let two = doubled z in
    let least : degree ≤ degree * 2 ^ z = le-mul_of_pos_right degree (pow_pos z) in
    (omega arith, omega arith)

from_west : (z x degree : ℕ) → degree < 360 → 360 * 2 ^ z + 180 * x ≤ (degree + 1) * 2 ^ z → (x ≡ 0) × (degree ≡ 359)
from_west z x degree within h =
    let least : 360 ≤ degree + 1 = le_of_mul-le-mul_right {k = 2 ^ z} (omega arith) (pow_pos z) in
    let most : (degree + 1) * 2 ^ z ≤ 360 * 2 ^ z = mul-le-mul_right (2 ^ z) (omega arith) in
    (omega arith, omega arith)

wraps_from : (tile : TileId) (degree : ℕ) → degree < 360
    → (360 * 2 ^ tile.z + degree * 2 ^ tile.z ≤ 180 * (tile.x + 1)) ⊎ (360 * 2 ^ tile.z + 180 * tile.x ≤ (degree + 1) * 2 ^ tile.z)
    → wraps_at tile.z tile.x degree ≡ true
wraps_from tile degree within s =
    elim s [
      | inl h ↦
          let last = from_east tile.z tile.x degree tile.x_in_range h in
          or_right ((tile.x == 0) && (degree == 359)) _ (and_from _ _ (eq-eqb _ _ last.0) (eq-eqb _ _ last.1))
      | inr h ↦
          let first = from_west tile.z tile.x degree within h in
          or_left _ _ (and_from _ _ (eq-eqb _ _ first.0) (eq-eqb _ _ first.1))
    ]

pub touches_from : (tile : TileId) (square : Square) → Touches tile square → touches_of tile square ≡ true
unfolding touches_of
touches_from tile square h =
    let tile_lon = h.of_tile.longitude in
    let square_lon = h.of_square.longitude in
    let rows = share_parallel (2 ^ tile.z) tile.y square.lat h.point.north h.point.parts h.fraction
    h.of_tile.latitude.above h.of_tile.latitude.below (omega (arith, h.of_square.latitude.above)) (omega (arith, h.of_square.latitude.below)) in
    let columns = share_meridian (2 ^ tile.z) tile.x square.lon h.point.east h.point.parts h.of_tile.point_turns h.of_square.point_turns h.of_tile.turns h.of_square.turns h.fraction
    tile_lon.above tile_lon.below (omega (arith, square_lon.above)) (omega (arith, square_lon.below)) in
    and_from (meets_at tile.z tile.y square.lat) (round_meets_at tile.z tile.x square.lon) (meets_from tile.z tile.y square.lat rows) (elim columns [
      | inl w ↦ or_left _ _ (meets_from tile.z tile.x square.lon w)
      | inr s ↦ or_right (meets_at tile.z tile.x square.lon) _ (wraps_from tile square.lon square.lon_in_range s)
    ])

-- ---- to a shared point

within_stripe : (n m z stripe : ℕ) → (180 * stripe) * m ≤ n * 2 ^ z → n * 2 ^ z ≤ (180 * (stripe + 1)) * m → IsWithin n m (stripe_span z stripe)
within_stripe n m z stripe above below = record { above = above; below = below }

within_degree : (n m degree : ℕ) → degree * m ≤ n → n ≤ (degree + 1) * m → IsWithin n m (degree_span degree)
within_degree n m degree above below = record { above = omega (arith, above); below = omega (arith, below) }

-- the greater of the two beginnings lies in both
in_stripe : (z stripe degree : ℕ) → Meets (2 ^ z) stripe degree → IsWithin (max (180 * stripe) (degree * 2 ^ z)) (2 ^ z) (stripe_span z stripe)
in_stripe z stripe degree h =
    let within : max (180 * stripe) (degree * 2 ^ z) ≤ 180 * (stripe + 1) = omega (arith, h.above) in
    record { above = mul-le-mul_right (2 ^ z) (omega arith); below = mul-le-mul_right (2 ^ z) within }

in_degree : (z stripe degree : ℕ) → Meets (2 ^ z) stripe degree → IsWithin (max (180 * stripe) (degree * 2 ^ z)) (2 ^ z) (degree_span degree)
in_degree z stripe degree h = record { above = omega (arith, h.below); below = omega (arith, h.below) }

-- where no turn is taken, a span is as it stands
unturned : (n m : ℕ) (span : Span) → IsWithin n m span → IsWithin n m (turned 0 span)
unturned n m span h = record { above = omega (arith, h.above); below = omega (arith, h.below) }

still : (n m : ℕ) (span : Span) → IsWithin n m span → IsWithin (n + 360 * 0 * m) m span
still n m span h = record { above = omega (arith, h.above); below = omega (arith, h.below) }

-- the meridians that they share
record Shared (tile : TileId) (degree : ℕ) : Type 0 where
  east : ℕ
  tile_turns : ℕ
  degree_turns : ℕ
  of_tile : IsWithin (east + 360 * tile_turns * 2 ^ tile.z) (2 ^ tile.z) (stripe_span tile.z tile.x)
  of_degree : IsWithin (east + 360 * degree_turns * 2 ^ tile.z) (2 ^ tile.z) (degree_span degree)

-- the meridian 180 as the first of a tile and the last of a square
first_last : (tile : TileId) (degree : ℕ) → tile.x ≡ 0 → degree ≡ 359 → Shared tile degree
first_last tile degree first last =
    let no_columns : tile.x * 2 ^ tile.z ≡ 0 * 2 ^ tile.z = ap (λ (n : ℕ). n * 2 ^ tile.z) first in
    let degrees : degree * 2 ^ tile.z ≡ 359 * 2 ^ tile.z = ap (λ (n : ℕ). n * 2 ^ tile.z) last in
    record {
      east = 0;
      tile_turns = 0;
      degree_turns = 1;
      of_tile = within_stripe _ _ tile.z tile.x (omega (arith, no_columns)) (omega arith);
      of_degree = within_degree _ _ degree (omega (arith, degrees)) (omega (arith, degrees));
    }

-- and as the last of a tile and the first of a square
last_first : (tile : TileId) (degree : ℕ) → tile.x + 1 ≡ 2 ^ (tile.z + 1) → degree ≡ 0 → Shared tile degree
last_first tile degree last first =
    let two = doubled tile.z in
    let degrees : degree * 2 ^ tile.z ≡ 0 * 2 ^ tile.z = ap (λ (n : ℕ). n * 2 ^ tile.z) first in
    let low : (180 * tile.x) * 2 ^ tile.z ≤ (360 * 2 ^ tile.z) * 2 ^ tile.z = mul-le-mul_right (2 ^ tile.z) (omega arith) in
    let high : (360 * 2 ^ tile.z) * 2 ^ tile.z ≤ (180 * (tile.x + 1)) * 2 ^ tile.z = mul-le-mul_right (2 ^ tile.z) (omega arith) in
    record {
      east = 0;
      tile_turns = 1;
      degree_turns = 0;
      of_tile = within_stripe _ _ tile.z tile.x (omega (arith, low)) (omega (arith, high));
      of_degree = within_degree _ _ degree (omega (arith, degrees)) (omega (arith, degrees));
    }

wraps_to : (tile : TileId) (degree : ℕ) → wraps_at tile.z tile.x degree ≡ true → Shared tile degree
wraps_to tile degree h =
    elim (or_cases ((tile.x == 0) && (degree == 359)) ((tile.x + 1 == 2 ^ (tile.z + 1)) && (degree == 0)) h) [
      | inl e ↦ let both = and_parts (tile.x == 0) (degree == 359) e in first_last tile degree (eqb-true _ _ both.0) (eqb-true _ _ both.1)
      | inr e ↦ let both = and_parts (tile.x + 1 == 2 ^ (tile.z + 1)) (degree == 0) e in last_first tile degree (eqb-true _ _ both.0) (eqb-true _ _ both.1)
    ]

meets_to : (tile : TileId) (degree : ℕ) → meets_at tile.z tile.x degree ≡ true → Shared tile degree
meets_to tile degree h =
    let w = meets_parts tile.z tile.x degree h in
    record {
      east = max (180 * tile.x) (degree * 2 ^ tile.z);
      tile_turns = 0;
      degree_turns = 0;
      of_tile = still _ _ (stripe_span tile.z tile.x) (in_stripe tile.z tile.x degree w);
      of_degree = still _ _ (degree_span degree) (in_degree tile.z tile.x degree w);
    }

round_to : (tile : TileId) (degree : ℕ) → round_meets_at tile.z tile.x degree ≡ true → Shared tile degree
round_to tile degree h = elim (or_cases (meets_at tile.z tile.x degree) (wraps_at tile.z tile.x degree) h) [ inl e ↦ meets_to tile degree e | inr e ↦ wraps_to tile degree e ]

pub touches_to : (tile : TileId) (square : Square) → touches_of tile square ≡ true → Touches tile square
unfolding touches_of
touches_to tile square h =
    let both = and_parts (meets_at tile.z tile.y square.lat) (round_meets_at tile.z tile.x square.lon) h in
    let rows = meets_parts tile.z tile.y square.lat both.0 in
    let shared = round_to tile square.lon both.1 in
    record {
      point = record { east = shared.east; north = max (180 * tile.y) (square.lat * 2 ^ tile.z); parts = 2 ^ tile.z };
      fraction = pow_pos tile.z;
      of_tile = record { turns = 0; point_turns = shared.tile_turns; longitude = unturned _ _ (stripe_span tile.z tile.x) shared.of_tile; latitude = in_stripe tile.z tile.y square.lat rows };
      of_square = record { turns = 0; point_turns = shared.degree_turns; longitude = unturned _ _ (degree_span square.lon) shared.of_degree; latitude = in_degree tile.z tile.y square.lat rows };
    }

pub touches_law : (tile : TileId) (square : Square) → IsTrue (touches_of tile square) ↔ Touches tile square
touches_law tile square = (touches_to tile square, touches_from tile square)

pub true_and : (x y : Bool) → x ≡ true → (x && y) ≡ y
true_and x y e = rw e refl

-- the law at an answer of the test
pub touches_at : (tile : TileId) (square : Square) (b : Bool) → b ≡ touches_of tile square → IsTrue b ↔ Touches tile square
touches_at tile square b e = rw e (touches_law tile square)
