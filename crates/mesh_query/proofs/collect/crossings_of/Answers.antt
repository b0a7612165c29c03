-- The sides of one triangle more.
use Rattle.std.proofs.Common.{List, take, add-one, subst, sym}
use Rattle.std.proofs.lemmas.List.{take_all}
use Rattle.mesh_plane.specs.declared.corner.Tri.{Tri}
use Rattle.mesh_query.specs.Found.{at_place}
use Rattle.mesh_query.specs.Added.{DirectedSide, all_sides, AreCrossings}
use Rattle.mesh_query.proofs.Adding.{sides_more, no_crossings}
use Rattle.mesh_query.proofs.collect.crossings_of.Goals as goal

pub loop-tri-init : goal.loop-tri-init
loop-tri-init c = rw c.new-found.ensures.items (no_crossings (at_place c.args.from.now) (at_place c.args.to.now))

pub loop-tri-preserved : goal.loop-tri-preserved
loop-tri-preserved c =
    rw add-one
    (subst (λ (xs : List DirectedSide). AreCrossings (at_place c.args.from.now) (at_place c.args.to.now) xs
    c.add_sides.new.found.items)
    (sym (sides_more c.args.tris.now c.loop-tri.tri-index _ c.loop-tri-test.true))
    (c.in_ok-add_sides.ensures (all_sides (take c.loop-tri.tri-index c.args.tris.now)) c.loop-tri.invariant))

pub returns : goal.returns
returns c =
    subst (λ (ts : List Tri). AreCrossings (at_place c.args.from.now) (at_place c.args.to.now) (all_sides ts)
    c.loop-tri.found.items)
    (take_all c.loop-tri.tri-index c.args.tris.now c.loop-tri-test.false) c.loop-tri.invariant
