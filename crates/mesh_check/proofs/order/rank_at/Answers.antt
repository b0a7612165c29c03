-- The rank of the member with both segments.
use Rattle.std.proofs.Common.{refl}
use Rattle.std.specs.Prelude.{pos}
use Rattle.mesh_plane.specs.declared.corner.Corner.{Corner}
use Rattle.mesh_plane.specs.declared.corner.Tri.{Tri}
use Rattle.mesh_check.proofs.RankedMembers.{is_ranked}
use Rattle.mesh_check.proofs.order.rank_at.Goals as goal

abbrev none : Tri
none = let o : Corner = record { u = pos 0; v = pos 0; h = pos 0 } in record { a = o; b = o; c = o }

pub returns : goal.returns
returns c =
    is_ranked c.args.slab.now c.args.triangles.now c.args.number none c.left_of.result c.right_of.result _
    c.requires.triangles c.requires.active.0 c.left_of.ensures.down
    c.left_of.ensures.spans c.right_of.ensures.up c.right_of.ensures.spans c.key.ensures c.key-2.ensures refl
