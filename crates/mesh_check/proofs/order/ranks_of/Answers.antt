-- The next rank.
use Rattle.mesh_check.specs.Ordered.{IsRankAt}
use Rattle.mesh_check.proofs.Zips.{zip_step}
use Rattle.mesh_check.proofs.order.ranks_of.Goals as goal

pub loop-span-preserved : goal.loop-span-preserved
loop-span-preserved c =
    zip_step (λ s r. IsRankAt c.args.slab.now c.args.triangles.now s.number r) c.args.active.now c.loop-span.ranks.items
    c.push.new.self.items c.loop-span.span-index _ c.rank_at.result
    c.loop-span.invariant c.loop-span-test.true c.rank_at.ensures c.in_ok-push.ensures.items
