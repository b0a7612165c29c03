-- A sorted list, by its derived order.
use Rattle.std.proofs.Common.{arith, slice_index_or, ◌+◌}
use Rattle.mesh_check.proofs.RankOrder.{kept, pairs}
use Rattle.mesh_check.proofs.rank.sort_ranks.Goals as goal

pub returns-clause-order : goal.returns-clause-order
returns-clause-order c =
    let xs = c.sort_unstable.new.self.items in
    pairs xs (λ k d l. kept (slice_index_or xs k d) (slice_index_or xs (k + 1) d) (c.sort_unstable.ensures.sorted k d
    (omega arith) l))
