use Rattle.std.proofs.Common.{◌∙◌, sym, add-one}
use Rattle.edge_decimate.specs.Straight.{are_near}
use Rattle.edge_decimate.proofs.Halves.{near_step}
use Rattle.edge_decimate.proofs.straight.all_near.Goals as goal

pub loop-i-init : goal.loop-i-init
unfolding are_near
loop-i-init c = rw add-one

pub loop-i-preserved : goal.loop-i-preserved
loop-i-preserved c = near_step _ _ _ _ _ c.loop-i-test.true (sym c.if-not-near.ensures) ∙ c.loop-i.invariant
