-- A rank for each number so far.
use Rattle.std.proofs.Common.{take}
use Rattle.std.specs.List.{AllZip}
use Rattle.mesh_check.specs.Ordered.{IsRankAt}
use Rattle.mesh_check.proofs.order.ranks_of.Given as goal

abbrev pub invariant-loop-span : goal.invariant-loop-span
invariant-loop-span l = AllZip (λ s r. IsRankAt l.slab l.triangles s.number r)
    (take l.span-index l.active) l.ranks.items
