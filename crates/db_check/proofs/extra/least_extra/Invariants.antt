use Rattle.std.proofs.Common.{◌≡◌, take, not, is_some}
use Rattle.std.specs.List.{filter}
use Rattle.std.specs.FinMap.{keys}
use Rattle.terrain_base.specs.Step.{Files}
use Rattle.cell_mosaic.specs.Summaries.{summaries_of}
use Rattle.database.specs.State.{State, file_of}
use Rattle.database.specs.Verdict.{difference_at, IsLeast}
use Rattle.db_check.proofs.extra.least_extra.Given as goal

abbrev pub invariant-loop-name : goal.invariant-loop-name
invariant-loop-name l =
    (files : Files) (s : State) → l.params ≡ s.params → l.rows ≡ summaries_of s.cells → l.names ≡ keys files
    → IsLeast (difference_at s files)
    (filter (λ name. not (is_some (file_of s name))) (take l.name-index l.names)) l.best
