-- One triangle more.
use Rattle.std.proofs.Common.{◌∙◌, ap, sym, add-one, map}
use Rattle.std.proofs.lemmas.List.{take_all}
use Rattle.mesh_query.specs.Field.{tri_at}
use Rattle.mesh_query.proofs.Vertices.{one_more_map}
use Rattle.mesh_query.proofs.field.tris_of.Goals as goal

pub loop-t-preserved : goal.loop-t-preserved
loop-t-preserved c =
    rw (add-one, c.in_ok-push.ensures.items, c.loop-t.invariant)
    (sym (one_more_map (tri_at c.args.corners.now) c.args.indexes.now c.loop-t.t-index _ c.loop-t-test.true))

pub returns : goal.returns
returns c =
    c.loop-t.invariant ∙ ap (λ list. map (tri_at c.args.corners.now) list)
    (take_all c.loop-t.t-index c.args.indexes.now c.loop-t-test.false)
