-- The samples of a tile: 65 lines from north to south of 65 each from west to east, whose first and last lie on the
-- tile's borders (heightmap-1.0, "a 65x65 array of 16-bit, little-endian integers").
use Rattle.std.specs.Prelude.{ℕ, ℤ, pos, negsuc, ◌+◌, ◌-◌, ◌*◌, ◌/◌, ◌%◌, ◌^◌, ◌+ℤ◌, unsigned_abs, List, map}
use Rattle.std.specs.Int.{int_min, int_max}
use Rattle.std.specs.List.{range_with_len}
use Rattle.terrain_base.specs.declared.tile.TileId.{TileId}
use Rattle.tms_tree.specs.declared.place.Place.{Place}
use Rattle.cell_mosaic.specs.Cells.{Cells}
use Rattle.resample.specs.Height.{height_at}

-- the place of the sample of a line, counted from the north, and a place on it, counted from the west
abbrev pub place_at : TileId → ℕ → ℕ → Place
place_at tile line place = record { p = 64 * tile.x + place; q = 64 * tile.y + 64 - line; d = 64 * 2 ^ tile.z }

-- a height, cut at the least and the greatest that a sample can say
abbrev pub cut_of : ℤ → ℤ
cut_of metres = int_min (int_max metres (negsuc 999)) (pos 12107)

-- the fifths of a metre above -1000 metres (heightmap-1.0, "the number of 1/5 meter units above -1000 meters")
unfoldable pub number_of : ℤ → ℕ
number_of metres = 5 * unsigned_abs (pos 1000 +ℤ cut_of metres)

-- the sample of a line and a place
abbrev pub sample_of : ℤ → Cells → TileId → ℕ → ℕ → ℕ
sample_of fill cells tile line place = number_of (height_at fill cells (place_at tile line place))

-- the sample of this number, line by line
abbrev pub sample_at : ℤ → Cells → TileId → ℕ → ℕ
sample_at fill cells tile k = sample_of fill cells tile (k / 65) (k % 65)

unfoldable pub samples_of : ℤ → Cells → TileId → List ℕ
samples_of fill cells tile = map (sample_at fill cells tile) (range_with_len 0 4225)
