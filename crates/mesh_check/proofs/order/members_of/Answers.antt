-- The next member.
use Rattle.mesh_check.specs.Ordered.{IsMemberAt}
use Rattle.std.specs.Prelude.{pos}
use Rattle.mesh_plane.specs.declared.corner.Corner.{Corner}
use Rattle.mesh_plane.specs.declared.corner.Tri.{Tri}
use Rattle.mesh_check.proofs.RankedMembers.{is_member}
use Rattle.mesh_check.proofs.Zips.{zip_step}
use Rattle.mesh_check.proofs.order.members_of.Goals as goal

abbrev none : Tri
none = let o : Corner = record { u = pos 0; v = pos 0; h = pos 0 } in record { a = o; b = o; c = o }

pub loop-rank-preserved : goal.loop-rank-preserved
loop-rank-preserved c =
    zip_step (λ r m. IsMemberAt c.args.slab.now c.args.triangles.now r.number m) c.args.ranks.now
    c.loop-rank.members.items c.push.new.self.items c.loop-rank.rank-index _ _
    c.loop-rank.invariant c.loop-rank-test.true
    (is_member c.args.slab.now c.args.triangles.now _ none c.left_of.result c.right_of.result c.requires.triangles
    (c.requires.active c.loop-rank.rank-index _ c.loop-rank-test.true).0 c.left_of.ensures.down
    c.left_of.ensures.spans c.right_of.ensures.up c.right_of.ensures.spans) c.in_ok-push.ensures.items
