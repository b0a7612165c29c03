use Rattle.std.proofs.Common.{refl}
use Rattle.bound_spheres.specs.Horizon.{hides_of}
use Rattle.bound_spheres.proofs.Rising.{all_end, all_next}
use Rattle.bound_spheres.proofs.hiding.hides_all.Goals as goal

pub loop-next-init : goal.loop-next-init
loop-next-init c = refl

pub loop-next-preserved : goal.loop-next-preserved
loop-next-preserved c = all_next (λ p. hides_of c.args.c.now p c.args.m) c.args.corners.now c.loop-next.next-index _ c.hides.result
    c.loop-next-test.true c.loop-next.invariant c.hides.ensures c.if-not-hides.false

pub returns : goal.returns
returns c = all_end (λ p. hides_of c.args.c.now p c.args.m) c.args.corners.now c.loop-next.next-index c.loop-next-test.false
    c.loop-next.invariant
