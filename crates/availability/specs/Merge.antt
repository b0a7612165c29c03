-- Runs that touch are joined.
use Rattle.std.specs.Prelude.{◌≡◌, ℕ, ◌-◌, ◌<◌, ◌≤◌, ◌==◌, nat_le, max, Bool, ◌&&◌, ◌⊎◌, List, [], ◌∷◌, ◌++◌, if◌then◌else◌}
use Rattle.std.specs.List.{All, AllPairs}
use Rattle.availability.specs.declared.row_run.RowRun.{RowRun}
use Rattle.availability.specs.Runs.{is_in_runs, IsNonempty, IsApart}

-- the next run does not begin before this one
abbrev pub IsBehind : RowRun → RowRun → Type 0
IsBehind run next = (run.row < next.row) ⊎ ((run.row ≡ next.row) × (run.start ≤ next.start))

-- a run that does not begin before this one leaves no column between them
abbrev pub joins_of : RowRun → RowRun → Bool
joins_of run next = (run.row == next.row) && nat_le (next.start - run.end) 1

-- the run that has the columns of both and those between
abbrev pub grown_of : RowRun → RowRun → RowRun
grown_of run next = record { row = run.row; start = run.start; end = max run.end next.end }

-- the next run is taken: the run grows by it, or is done
pub record Takes (run next grown : RowRun) (old new : List RowRun) : Type 0 where
  pub run_is : grown ≡ (if joins_of run next then grown_of run next else next)
  pub done_are : new ≡ (if joins_of run next then old else (old ++ run ∷ []))

-- the runs lie apart, in order, and have the rows and columns of the sorted ones
pub record AreJoined (sorted runs : List RowRun) : Type 0 where
  pub nonempty : All IsNonempty runs
  pub apart : AllPairs IsApart runs
  pub places : (row column : ℕ) → is_in_runs runs row column ≡ is_in_runs sorted row column
