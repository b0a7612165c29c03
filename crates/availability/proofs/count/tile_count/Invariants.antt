use Rattle.std.specs.Prelude.{◌≡◌, ◌≤◌, ◌*◌, ◌^◌}
use Rattle.availability.specs.Count.{sum_below, level_count_of}
use Rattle.availability.proofs.count.tile_count.Given as goal

abbrev pub invariant-loop-z : goal.invariant-loop-z
invariant-loop-z l = record { value : l.count ≡ sum_below (level_count_of l.cap l.summaries) l.z; few : l.count ≤ l.z * 2 ^ 29 }
