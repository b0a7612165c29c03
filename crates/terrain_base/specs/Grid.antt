-- The grid of a tile: 67 by 67 points, and how closely its mesh follows it.
use Rattle.std.specs.Prelude.{◌≡◌, ℕ, ◌+◌, ◌*◌, ◌/◌, ◌^◌, ◌<◌, max, ℤ, pos, List, length, slice_index_or}
use Rattle.terrain_base.specs.Height.{IsHeight}

-- the place in the list of heights of column i and row j
abbrev pub spot : ℕ → ℕ → ℕ
spot i j = 67 * j + i

-- the height at column i from the west and row j from the south, in metres
abbrev pub height_in : List ℤ → ℕ → ℕ → ℤ
height_in grid i j = slice_index_or grid (spot i j) (pos 0)

-- as many heights as grid points, each a height
pub record IsGrid (grid : List ℤ) : Type 0 where
  pub full : length grid ≡ 4489
  pub heights : (k : ℕ) → k < 4489 → IsHeight (slice_index_or grid k (pos 0))

-- where the grid line of this number lies, in tile units: the edge has 32767 (quantized-mesh-1.0, u and v)
abbrev pub line_position : ℕ → ℕ
line_position i = 32767 * i / 66

-- the tolerance of a level, in metres
abbrev pub tolerance_of : ℕ → ℕ
tolerance_of z = max (8192 / 2 ^ z) 1
