-- One triangle more that does not hide the end.
use Rattle.std.proofs.Common.{add-one}
use Rattle.mesh_query.specs.Found.{at_place}
use Rattle.sight_line.specs.Hidden.{Hides}
use Rattle.sight_line.proofs.Blocks.{all_one_more}
use Rattle.sight_line.proofs.Cuts.{off}
use Rattle.sight_line.proofs.hidden.is_hidden.Goals as goal

pub loop-tri-preserved : goal.loop-tri-preserved
loop-tri-preserved c =
    let line = c.args.line.now in
    rw add-one
    (all_one_more (λ t. ¬ Hides (at_place line.from) line.start (at_place line.to) line.end t) c.args.tris.now
    c.loop-tri.tri-index _ c.loop-tri-test.true c.loop-tri.invariant
    (λ h. off c.hides.result c.if-hides.false (c.hides.ensures.1 h)))
