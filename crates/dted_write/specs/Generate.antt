-- A made-up landscape: heights at knots 450 arc-seconds apart, bilinear between them.
use Rattle.std.specs.Prelude.{
  ℕ,
  ◌+◌,
  ◌-◌,
  ◌*◌,
  ◌/◌,
  ◌%◌,
  pos,
  min,
  bit_xor,
  Bool,
  ◌==◌,
  ◌&&◌,
  nat_lt,
  if◌then◌else◌,
}
use Rattle.terrain_base.specs.declared.square.Square.{Square}
use Rattle.terrain_base.specs.declared.level.CellLevel.{CellLevel}
use Rattle.terrain_base.specs.declared.post.Post.{Post}
use Rattle.terrain_base.specs.declared.post.Post.TheVariants.{Void, Metres}
use Rattle.terrain_base.specs.Level.{lat_step_of, lon_step_of}
use Rattle.dted_write.specs.Mix.{mixed}

-- the height of a knot in metres, 0 to 2000: knots are counted east from 180 degrees west and north from the south pole
unfoldable pub knot_height : ℕ → ℕ → ℕ → ℕ
knot_height number east north = mixed (bit_xor number (mixed (east * 4096 + north))) % 2001

-- of the eight knot squares on each side of a square, the one that arc-seconds from its border lie in
abbrev pub knot_of : ℕ → ℕ
knot_of seconds = min 7 (seconds / 450)

-- the arc-seconds from that knot on, 0 to 450
abbrev pub beyond_knot : ℕ → ℕ
beyond_knot seconds = seconds - 450 * knot_of seconds

-- the height at a place so many arc-seconds east and north of a square's corner: the mean of the four knots round
-- it, each weighted by its nearness in both directions, rounded down
unfoldable pub height_at : ℕ → Square → ℕ → ℕ → ℕ
height_at number square e n =
    let knot_west = (8 * square.lon + knot_of e) % 2880 in
    let knot_east = (8 * square.lon + knot_of e + 1) % 2880 in
    let knot_south = 8 * square.lat + knot_of n in
    let knot_north = 8 * square.lat + knot_of n + 1 in
    let fx = beyond_knot e in
    let fy = beyond_knot n in
    (knot_height number knot_west knot_south * ((450 - fx) * (450 - fy)) +
    knot_height number knot_east knot_south * (fx * (450 - fy)) +
    knot_height number knot_west knot_north * ((450 - fx) * fy) +
    knot_height number knot_east knot_north * (fx * fy)) / 202500

-- strictly between two neighbouring knots
abbrev pub is_between_knots : ℕ → Bool
is_between_knots seconds = nat_lt 0 (beyond_knot seconds) && nat_lt (beyond_knot seconds) 450

-- an odd number has voids inside one knot square, which it names by its lowest six bits
abbrev pub is_hole : ℕ → ℕ → ℕ → Bool
is_hole number e n =
    number % 2 == 1 && knot_of e == number % 8 && knot_of n == number / 8 % 8 &&
    is_between_knots e && is_between_knots n

-- the post of a column and a row
unfoldable pub generated_post : ℕ → Square → CellLevel → ℕ → ℕ → Post
generated_post number square level col row =
    let e = col * lon_step_of square level in
    let n = row * lat_step_of level in
    if is_hole number e n then Void else Metres (pos (height_at number square e n))
