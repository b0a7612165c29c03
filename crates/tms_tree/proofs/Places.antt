-- The places of a tile's grid points are places, and lie in the tile.
use Rattle.std.specs.Prelude.{◌≡◌, ℕ, ◌+◌, ◌*◌, ◌^◌, ◌<◌, ◌≤◌}
use Rattle.std.proofs.Common.{arith}
use Rattle.std.proofs.lemmas.Nat.{pow_pos}
use Rattle.std.proofs.Math.Nat.{mul-le-mul_right, div-le_of_le-mul}
use Rattle.std.proofs.Math.Pow.{pow_mono}
use Rattle.terrain_base.specs.declared.tile.TileId.{TileId}
use Rattle.terrain_base.specs.Grid.{line_position}
use Rattle.tms_tree.specs.Degrees.{Span, RectangleHolds, IsWithin, turned, stripe_span, tile_rectangle}
use Rattle.tms_tree.specs.Place.{IsPlace, place_of, point_of}
use Rattle.tms_tree.proofs.Touching.{doubled}

pub line_within : (i : ℕ) → i ≤ 66 → line_position i ≤ 32767
line_within i h = div-le_of_le-mul 66 (omega arith)

pub is_place : (x y z u v d : ℕ) → z ≤ 14 → x < 2 ^ (z + 1) → y < 2 ^ z → u ≤ 32767 → v ≤ 32767 → d ≡ 2 ^ z * 32767 → IsPlace (record { p = x * 32767 + u; q = y * 32767 + v; d = d })
is_place x y z u v d level column row h k e =
    let p : 0 < 2 ^ z = pow_pos z in
    let most : 2 ^ z ≤ 2 ^ 14 = pow_mono level in
    let two = doubled z in
    record { positive = omega arith; fine = omega arith; turn = omega arith; pole = omega arith }

pub place_fits : (tile : TileId) (i j : ℕ) → i ≤ 66 → j ≤ 66 → IsPlace (place_of tile i j)
place_fits tile i j h k = is_place tile.x tile.y tile.z (line_position i) (line_position j) _ tile.z_in_range tile.x_in_range tile.y_in_range (line_within i h) (line_within j k) (omega arith)

-- a grid line of the stripe stands in it
in_stripe : (z stripe u : ℕ) → u ≤ 32767 → IsWithin (180 * (stripe * 32767 + u)) (2 ^ z * 32767) (stripe_span z stripe)
in_stripe z stripe u h =
    let most : u * 2 ^ z ≤ 32767 * 2 ^ z = mul-le-mul_right (2 ^ z) h in
    record { above = omega arith; below = omega (arith, most) }

still : (n m : ℕ) (span : Span) → IsWithin n m span → IsWithin (n + 360 * 0 * m) m (turned 0 span)
still n m span h = record { above = omega (arith, h.above); below = omega (arith, h.below) }

pub grid_point_in_tile : (tile : TileId) (i j : ℕ) → i ≤ 66 → j ≤ 66 → RectangleHolds (tile_rectangle tile) (point_of (place_of tile i j))
grid_point_in_tile tile i j h k = record {
  turns = 0;
  point_turns = 0;
  longitude = still _ _ (stripe_span tile.z tile.x) (in_stripe tile.z tile.x (line_position i) (line_within i h));
  latitude = in_stripe tile.z tile.y (line_position j) (line_within j k);
}
