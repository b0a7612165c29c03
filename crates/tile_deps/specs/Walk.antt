-- What an iterator over tiles still gives.
use Rattle.std.specs.Prelude.{◌≡◌, ℕ, ◌+◌, ◌-◌, ◌*◌, ◌<◌, ◌≤◌, ◌⊎◌, Bool, true, ◌&&◌, nat_le, List, [], ◌++◌, flat_map, Option, Some, None}
use Rattle.std.specs.List.{filter}
use Rattle.terrain_base.specs.declared.square.Square.{Square}
use Rattle.terrain_base.specs.declared.tile.TileId.{TileId}
use Rattle.tms_tree.specs.Touch.{touches_of}
use Rattle.tile_deps.specs.Tiles.{row_tiles, touched}
use Rattle.tile_deps.specs.declared.level_run.LevelRun.{LevelRun}

-- ---- by numbers that rise in the order of tiles

-- a level has at most 2^14 rows and 2^15 columns
abbrev pub number_of : TileId → ℕ
number_of tile = 536870912 * tile.z + (32768 * tile.y + tile.x)

-- the tiles whose number is not less
unfoldable pub from_number : ℕ → List TileId → List TileId
from_number n tiles = filter (λ tile. nat_le n (number_of tile)) tiles

-- the tile is one of those that touch the square
abbrev pub is_touched : ℕ → Square → Option TileId → Bool
is_touched cap square None = true
is_touched cap square (Some tile) = nat_le tile.z cap && touches_of tile square

-- the tiles that touch the square from the next one on, which is none behind the last
abbrev pub touched_from : ℕ → Square → Option TileId → List TileId
touched_from cap square None = []
touched_from cap square (Some tile) = from_number (number_of tile) (touched cap square)

-- the next column of the row, behind this one, that lies in one of the columns
pub record IsNextColumn (columns : ℕ → Bool) (column next : ℕ) : Type 0 where
  pub later : column < next
  pub among : columns next ≡ true
  pub first : (other : ℕ) → columns other ≡ true → (other ≤ column) ⊎ (next ≤ other)

-- the tile that comes next behind a number among the tiles that pass
pub record IsNextTile (passes : TileId → Bool) (number : ℕ) (next : TileId) : Type 0 where
  pub later : number ≤ number_of next
  pub among : passes next ≡ true
  pub first : (other : TileId) → passes other ≡ true → (number_of other < number) ⊎ (number_of next ≤ number_of other)

-- none of the tiles that pass comes behind the number
abbrev pub IsBehindAll : (TileId → Bool) → ℕ → Type 0
IsBehindAll passes number = (other : TileId) → passes other ≡ true → number_of other < number

-- ---- by runs

abbrev pub run_tiles : LevelRun → List TileId
run_tiles run = row_tiles run.z run.row run.start (run.end + 1 - run.start)

abbrev pub runs_tiles : List LevelRun → List TileId
runs_tiles runs = flat_map run_tiles runs

-- those of the run that was begun, where one was, and of the runs behind it
abbrev pub tiles_left : Option LevelRun → List LevelRun → List TileId
tiles_left None runs = runs_tiles runs
tiles_left (Some run) runs = run_tiles run ++ runs_tiles runs
