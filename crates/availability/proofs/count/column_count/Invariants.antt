use Rattle.std.specs.Prelude.{◌≡◌, take}
use Rattle.std.specs.List.{sum_by}
use Rattle.availability.specs.Count.{columns_of}
use Rattle.availability.proofs.count.column_count.Given as goal

abbrev pub invariant-loop-run : goal.invariant-loop-run
invariant-loop-run l = l.count ≡ sum_by columns_of (take l.run-index l.runs)
