use Rattle.std.specs.Prelude.{◌≡◌, ℕ, nat_le, nat_lt, ◌&&◌, ◌||◌}
use Rattle.std.specs.List.{All}
use Rattle.tms_tree.specs.Touched.{is_in_run}
use Rattle.availability.specs.Runs.{is_in_runs, IsNonempty}
use Rattle.availability.proofs.crossing.add_crossed.Given as goal

-- the runs of the rows before this one are added
abbrev pub invariant-loop-row : goal.invariant-loop-row
invariant-loop-row l = record {
  runs : (row column : ℕ) → is_in_runs l.list.items row column ≡ (is_in_runs l.initial.list.items row column || ((nat_le l.initial.row row && nat_lt row l.row) && is_in_run l.columns column));
  nonempty : All IsNonempty l.initial.list.items → All IsNonempty l.list.items;
}
