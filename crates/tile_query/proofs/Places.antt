-- Places within tiles.
use Rattle.std.proofs.Common.{◌≡◌, arith, ℕ, ◌*◌, ◌/◌, ◌%◌, ◌+◌, ◌-◌, ◌<◌, ◌≤◌, ◌^◌}
use Rattle.std.specs.Prelude.{pos, ◌-ℤ◌, ◌*ℤ◌, ◌≤ℤ◌, min}
use Rattle.std.proofs.lemmas.Int.{ints}
use Rattle.std.proofs.Math.Pow.{pow_mono}
use Rattle.terrain_base.specs.declared.tile.TileId.{TileId}
use Rattle.mesh_plane.specs.Plane.{IsTilePoint}
use Rattle.tile_query.specs.Question.{IsGoodPlace, point_in}

pub shifted_small : (z s : ℕ) → z ≤ 14 → s < 2 ^ 21 → s * 2 ^ z < 2 ^ 35
shifted_small z s level small = let p : 2 ^ z ≤ 2 ^ 14 = pow_mono level in grind (arith, p)

pub shifted : (z s : ℕ) → z ≤ 14 → s < 2 ^ 21 → s * 2 ^ z % 18446744073709551616 ≡ s * 2 ^ z
shifted z s level small = let p = shifted_small z s level small in omega (arith, p)

-- at least as far as the border before it, and at most as far as the one behind it
pub record IsBetween (n stripe : ℕ) : Type 0 where
  pub low : 648000 * stripe ≤ n
  pub high : n ≤ 648000 * stripe + 648000

in_column : (n x : ℕ) → x ≡ n / 648000 → IsBetween n x
in_column n x e = record { low = omega (arith, e); high = omega (arith, e) }

in_row_by : (n p y : ℕ) → y ≡ min (n / 648000) (p - 1) → 1 ≤ p → n ≤ 648000 * p → IsBetween n y
in_row_by n p y e some most = record { low = omega (arith, e); high = omega (arith, e, some, most) }

most_of : (north p : ℕ) → north ≤ 648000 → north * p ≤ 648000 * p
most_of north p h = grind (arith, h)

some_of : (z : ℕ) → 1 ≤ 2 ^ z
some_of z = let least : 0 ≤ z = omega arith in let p : 2 ^ 0 ≤ 2 ^ z = pow_mono least in omega (arith, p)

module _ (n stripe : ℕ) (h : IsBetween n stripe) where
  units_low : pos 0 ≤ℤ ((pos n -ℤ pos (648000 * stripe)) *ℤ pos 32767)
  units_low = omega (arith, ints, h.low)

  units_high : ((pos n -ℤ pos (648000 * stripe)) *ℤ pos 32767) ≤ℤ (pos 32767 *ℤ pos 648000)
  units_high = omega (arith, ints, h.low, h.high)

pub on_tile : (tile : TileId) (east north : ℕ) → IsGoodPlace tile east north
    → IsTilePoint (pos 648000) (point_in tile east north).u (point_in tile east north).v
on_tile tile east north good =
    let column = in_column (east * 2 ^ tile.z) tile.x good.tile_is.column in
    let row = in_row_by (north * 2 ^ tile.z) (2 ^ tile.z) tile.y good.tile_is.row (some_of tile.z)
    (most_of north (2 ^ tile.z) good.north_in_range) in
    record {
      west = units_low (east * 2 ^ tile.z) tile.x column;
      east = units_high (east * 2 ^ tile.z) tile.x column;
      south = units_low (north * 2 ^ tile.z) tile.y row;
      north = units_high (north * 2 ^ tile.z) tile.y row;
    }
