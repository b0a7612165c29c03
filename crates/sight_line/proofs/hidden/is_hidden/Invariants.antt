-- No triangle so far hides the end.
use Rattle.std.proofs.Common.{take}
use Rattle.std.specs.List.{AllByRecursion}
use Rattle.mesh_query.specs.Found.{at_place}
use Rattle.sight_line.specs.Hidden.{Hides}
use Rattle.sight_line.proofs.hidden.is_hidden.Given as goal

abbrev pub invariant-loop-tri : goal.invariant-loop-tri
invariant-loop-tri l =
    AllByRecursion (λ t. ¬ Hides (at_place l.line.from) l.line.start (at_place l.line.to) l.line.end t)
    (take l.tri-index l.tris)
