-- An HGT file: as many samples on a line as lines, lines from north to south and samples from west to east, and nothing
-- before or behind them (SRTM Topography, DEM file).
use Rattle.std.specs.Prelude.{◌≡◌, ℕ, ℤ, ◌+◌, ◌*◌, ◌<◌, ◌==◌, Bool, true, ◌||◌, List, length, if◌then◌else◌}
use Rattle.terrain_base.specs.declared.level.CellLevel.{CellLevel}
use Rattle.terrain_base.specs.declared.level.CellLevel.TheVariants.{One, Two}
use Rattle.terrain_base.specs.Level.{rows_of}
use Rattle.hgt_cells.specs.Sample.{number_at, IsSample}

-- the bytes of 1201 lines three arc-seconds apart, and of 3601 lines one apart
abbrev pub coarse_length : ℕ
coarse_length = 2 * (1201 * 1201)

abbrev pub fine_length : ℕ
fine_length = 2 * (3601 * 3601)

abbrev pub has_lines : List ℕ → Bool
has_lines bytes = length bytes == coarse_length || length bytes == fine_length

-- the level whose rows the lines are
unfoldable pub level_in : List ℕ → CellLevel
level_in bytes = if length bytes == fine_length then Two else One

-- how many lines there are, and samples on each
abbrev pub lines_in : List ℕ → ℕ
lines_in bytes = rows_of (level_in bytes)

-- the sample of a line, counted from the north, and a place on it, counted from the west
unfoldable pub sample_in : List ℕ → ℕ → ℕ → ℤ
sample_in bytes line place = number_at bytes (2 * (lines_in bytes * line + place))

-- the file has either length, and each of its samples is a void or a height
pub record IsHgt (bytes : List ℕ) : Type 0 where
  pub size : has_lines bytes ≡ true
  pub samples : (line place : ℕ) → line < lines_in bytes → place < lines_in bytes
      → IsSample (sample_in bytes line place)
