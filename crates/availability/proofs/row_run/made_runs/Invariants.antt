use Rattle.std.specs.Prelude.{◌≡◌, ℕ, ◌==◌, ◌&&◌, ◌||◌, take}
use Rattle.std.specs.List.{list_any, All}
use Rattle.availability.specs.Existence.{makes_at}
use Rattle.availability.specs.Crossing.{is_top}
use Rattle.availability.specs.Runs.{is_in_runs, IsNonempty}
use Rattle.availability.proofs.row_run.made_runs.Given as goal

-- the runs of the cells so far
abbrev pub invariant-loop-cell : goal.invariant-loop-cell
invariant-loop-cell l = record {
  places : (row column : ℕ) → is_in_runs l.list.items row column ≡ (((l.z == 0) && is_top row column) || list_any (makes_at l.cap l.z row column) (take l.cell-index l.summaries));
  nonempty : All IsNonempty l.list.items;
}
