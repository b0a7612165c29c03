-- Those of the vertices so far that are seen.
use Rattle.mesh_query.specs.Way.{place}
use Rattle.sight_line.specs.Seen.{AreSeen}
use Rattle.sight_line.proofs.seen.view.Given as goal

abbrev pub invariant-loop-k : goal.invariant-loop-k
invariant-loop-k l = AreSeen l.fn.field (place l.fn.eye.spot) l.fn.eye.metres l.k l.seen.items
