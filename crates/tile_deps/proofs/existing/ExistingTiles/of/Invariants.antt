use Rattle.std.proofs.Common.{◌≡◌}
use Rattle.tile_deps.specs.Walk.{runs_tiles}
use Rattle.tile_deps.proofs.RunWalk.{existing_below}
use Rattle.tile_deps.proofs.existing.ExistingTiles.of.Given as goal

abbrev pub invariant-loop-z : goal.invariant-loop-z
invariant-loop-z l = runs_tiles l.list.items ≡ existing_below l.cap l.summaries l.z
