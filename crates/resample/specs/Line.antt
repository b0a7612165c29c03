-- Grid lines of a tile, by whole degrees and the rest, and by the posts of a cell.
use Rattle.std.specs.Prelude.{◌≡◌, ℕ, ◌-◌, ◌*◌, ◌/◌, ◌%◌, ◌^◌, ◌<◌, ◌≤◌, List, length, slice_index_or}
use Rattle.terrain_base.specs.declared.tile.TileId.{TileId}
use Rattle.tms_tree.specs.Place.{place_of}
use Rattle.resample.specs.declared.line.Line.{Line}
use Rattle.resample.specs.declared.grid_lines.GridLines.{GridLines}
use Rattle.resample.specs.declared.grid_lines.Run.{Run}

-- the line lies so many units of a degree over d from the first degree: whole degrees and the rest; and in a cell with
-- so many posts a degree, the post before it and the way beyond, in steps over d
pub record IsLine (units d : ℕ) (line : Line) : Type 0 where
  pub degrees : line.degrees ≡ units / d
  pub rest : line.rest ≡ units % d
  pub small : line.rest < d
  pub few : line.posts ≤ 3601
  pub many : 2 ≤ line.posts
  pub post : line.post ≡ line.rest * (line.posts - 1) / d
  pub beyond : line.beyond ≡ line.rest * (line.posts - 1) % d

-- the line lies in the degree, and is turned to cells with so many posts a degree
pub record LiesIn (units d degree posts : ℕ) (line : Line) : Type 0 where
  pub line_is : IsLine units d line
  pub degree_is : degree ≡ line.degrees
  pub posts_are : line.posts ≡ posts

-- what is read past the end of a list
abbrev pub no_line : Line
no_line = record { degrees = 0; rest = 0; posts = 0; post = 0; beyond = 0 }

-- each line lies so many units of a degree over d from the first degree
pub record AreLines (units : ℕ → ℕ) (d : ℕ) (lines : List Line) : Type 0 where
  pub full : length lines ≡ 67
  pub each : (i : ℕ) → i < 67 → IsLine (units i) d (slice_index_or lines i no_line)

-- where a tile's columns and rows lie, in units of a degree over `parts_of`
abbrev pub column_units : TileId → ℕ → ℕ
column_units tile i = 180 * (place_of tile i 0).p

abbrev pub row_units : TileId → ℕ → ℕ
row_units tile j = 180 * (place_of tile 0 j).q

abbrev pub parts_of : TileId → ℕ
parts_of tile = 2 ^ tile.z * 32767

abbrev pub AreColumns : TileId → List Line → Type 0
AreColumns tile lines = AreLines (column_units tile) (parts_of tile) lines

abbrev pub AreRows : TileId → List Line → Type 0
AreRows tile lines = AreLines (row_units tile) (parts_of tile) lines

-- the lines are those of the tile
pub record AreGridLines (tile : TileId) (lines : GridLines) : Type 0 where
  pub across : AreColumns tile lines.columns
  pub along : AreRows tile lines.rows

-- some of 67 lines, one after another, lie in one degree
pub record IsRun (units : ℕ → ℕ) (d : ℕ) (run : Run) : Type 0 where
  pub some : run.first < run.end
  pub last : run.end ≤ 67
  pub each : (k : ℕ) → run.first ≤ k → k < run.end → units k / d ≡ run.degrees
