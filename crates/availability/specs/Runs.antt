-- Runs of columns, and the maximal runs of a level's existing tiles.
use Rattle.std.specs.Prelude.{◌≡◌, ℕ, zero, suc, ◌+◌, ◌^◌, ◌<◌, ◌≤◌, ◌==◌, nat_le, Bool, ◌&&◌, ◌⊎◌, List, [], ◌∷◌, if◌then◌else◌}
use Rattle.std.specs.List.{list_any, All, AllPairs}
use Rattle.terrain_base.specs.declared.summary.Summary.{Summary}
use Rattle.availability.specs.declared.row_run.RowRun.{RowRun}
use Rattle.availability.specs.Existence.{exists_at}

-- the row is the run's, and the column one of its columns
abbrev pub has_at : ℕ → ℕ → RowRun → Bool
has_at row column run = (run.row == row) && (nat_le run.start column && nat_le column run.end)

abbrev pub is_in_runs : List RowRun → ℕ → ℕ → Bool
is_in_runs runs row column = list_any (has_at row column) runs

abbrev pub IsNonempty : RowRun → Type 0
IsNonempty run = run.start ≤ run.end

-- the next run lies in a later row, or in the same one behind a column that neither has
abbrev pub IsApart : RowRun → RowRun → Type 0
IsApart run next = (run.row < next.row) ⊎ ((run.row ≡ next.row) × (run.end + 1 < next.start))

-- the maximal runs of the existing tiles of level z, by row, then column
pub record AreRuns (cap : ℕ) (cells : List Summary) (z : ℕ) (runs : List RowRun) : Type 0 where
  pub nonempty : All IsNonempty runs
  pub apart : AllPairs IsApart runs
  pub exact : (row column : ℕ) → is_in_runs runs row column ≡ exists_at cap cells z row column

-- ---- these runs as a function

-- one column more, west of all runs: it lengthens the run that begins beside it, or is a run of its own
abbrev pub with_column : ℕ → ℕ → List RowRun → List RowRun
with_column row column [] = record { row = row; start = column; end = column } ∷ []
with_column row column (run ∷ later) =
    if (run.row == row) && (run.start == column + 1) then record { row = row; start = column; end = run.end } ∷ later
    else record { row = row; start = column; end = column } ∷ run ∷ later

-- so many columns of a row, from this one on, before the runs of later rows
unfoldable pub row_runs : (ℕ → ℕ → Bool) → ℕ → ℕ → ℕ → List RowRun → List RowRun
row_runs test row column zero later = later
row_runs test row column (suc left) later =
    let east = row_runs test row (column + 1) left later in
    if test row column then with_column row column east else east

-- so many rows of these columns, from this row on
unfoldable pub rows_runs : (ℕ → ℕ → Bool) → ℕ → ℕ → ℕ → List RowRun
rows_runs test columns row zero = []
rows_runs test columns row (suc left) = row_runs test row 0 columns (rows_runs test columns (row + 1) left)

unfoldable pub runs_of : ℕ → List Summary → ℕ → List RowRun
runs_of cap cells z = rows_runs (exists_at cap cells z) (2 ^ (z + 1)) 0 (2 ^ z)
