-- Runs are added for the tiles that a cell makes.
use Rattle.std.specs.Prelude.{◌≡◌, ℕ, ◌==◌, Bool, ◌&&◌, ◌||◌, List}
use Rattle.std.specs.List.{list_any}
use Rattle.terrain_base.specs.declared.summary.Summary.{Summary}
use Rattle.terrain_base.specs.declared.square.Square.{Square}
use Rattle.tms_tree.specs.Touch.{crosses_at}
use Rattle.availability.specs.declared.row_run.RowRun.{RowRun}
use Rattle.availability.specs.Existence.{makes_at}
use Rattle.availability.specs.Runs.{has_at, is_in_runs}

-- the rows and columns of the new runs are those of the old ones and those that pass
abbrev pub Adds : (ℕ → ℕ → Bool) → List RowRun → List RowRun → Type 0
Adds test old new = (row column : ℕ) → is_in_runs new row column ≡ (is_in_runs old row column || test row column)

-- whether the square overlaps the tile of level z in this row and column
abbrev pub crosses_both : ℕ → Square → ℕ → ℕ → Bool
crosses_both z square row column = crosses_at z row square.lat && crosses_at z column square.lon

-- the row and columns of level 0
abbrev pub is_top : ℕ → ℕ → Bool
is_top row column = has_at row column (record { row = 0; start = 0; end = 1 })

-- both tiles of level 0, and none of another level
abbrev pub top_at : ℕ → ℕ → ℕ → Bool
top_at z row column = (z == 0) && is_top row column

-- these, and what one of the cells makes of level z
abbrev pub made_at : ℕ → List Summary → ℕ → ℕ → ℕ → Bool
made_at cap cells z row column = top_at z row column || list_any (makes_at cap z row column) cells

-- the rows and columns of the runs are those that pass
abbrev pub HasPlaces : (ℕ → ℕ → Bool) → List RowRun → Type 0
HasPlaces test runs = (row column : ℕ) → is_in_runs runs row column ≡ test row column
