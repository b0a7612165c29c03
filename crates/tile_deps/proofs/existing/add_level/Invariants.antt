use Rattle.std.proofs.Common.{◌≡◌, ◌++◌, take}
use Rattle.tile_deps.specs.Walk.{runs_tiles}
use Rattle.tile_deps.proofs.Runs.{row_runs_tiles}
use Rattle.tile_deps.proofs.existing.add_level.Given as goal

abbrev pub invariant-loop-run : goal.invariant-loop-run
invariant-loop-run l = runs_tiles l.list.items ≡ runs_tiles l.fn.list.items ++ row_runs_tiles l.z (take l.run-index l.run-items)
