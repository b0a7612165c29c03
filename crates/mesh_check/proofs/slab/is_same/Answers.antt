-- One edge is the same as itself.
use Rattle.mesh_check.proofs.RankedMembers.{ends_same}
use Rattle.mesh_check.proofs.slab.is_same.Goals as goal

pub returns-then-has_same_ends : goal.returns-then-has_same_ends
returns-then-has_same_ends c =
    let s = ends_same c.args.slab.now c.args.a.now c.args.b.now (c.has_same_ends.ensures c.if-has_same_ends.true) in
    ((λ e. s), (λ e. c.if-has_same_ends.true))
