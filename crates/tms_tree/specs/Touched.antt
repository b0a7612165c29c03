-- Tiles of a level, given by runs of rows and columns.
use Rattle.std.specs.Prelude.{ℕ, ◌+◌, ◌^◌, ◌<◌, ◌≤◌, Bool, false, ◌&&◌, ◌||◌, nat_le, Option, Some, None, IfSome}
use Rattle.terrain_base.specs.declared.tile.TileId.{TileId}
use Rattle.tms_tree.specs.declared.touched.Run.{Run}
use Rattle.tms_tree.specs.declared.touched.TouchedRows.{TouchedRows}

abbrev pub is_in_run : Run → ℕ → Bool
is_in_run run n = nat_le run.start n && nat_le n run.end

abbrev pub is_in_east : Option Run → ℕ → Bool
is_in_east None n = false
is_in_east (Some run) n = is_in_run run n

-- the tile's row is in the rows, and its column in one of the two runs
abbrev pub is_in_rows : TouchedRows → TileId → Bool
is_in_rows touched tile = is_in_run touched.rows tile.y
    && (is_in_run touched.west tile.x || is_in_east touched.east tile.x)

-- a run that is not empty, of numbers below n
pub record IsRun (n : ℕ) (run : Run) : Type 0 where
  pub ordered : run.start ≤ run.end
  pub within : run.end < n

-- the second run lies behind the first, and is one too
pub record IsBehind (n : ℕ) (west east : Run) : Type 0 where
  pub behind : west.end < east.start
  pub run : IsRun n east

-- rows and columns of level z, the two runs of columns apart and ascending
pub record IsTouchedRows (z : ℕ) (touched : TouchedRows) : Type 0 where
  pub rows : IsRun (2 ^ z) touched.rows
  pub west : IsRun (2 ^ (z + 1)) touched.west
  pub east : IfSome touched.east (IsBehind (2 ^ (z + 1)) touched.west)
