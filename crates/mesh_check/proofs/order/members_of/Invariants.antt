-- A member for each rank so far.
use Rattle.std.proofs.Common.{take}
use Rattle.std.specs.List.{AllZip}
use Rattle.mesh_check.specs.Ordered.{IsMemberAt}
use Rattle.mesh_check.proofs.order.members_of.Given as goal

abbrev pub invariant-loop-rank : goal.invariant-loop-rank
invariant-loop-rank l = AllZip (λ r m. IsMemberAt l.slab l.triangles r.number m)
    (take l.rank-index l.ranks) l.members.items
