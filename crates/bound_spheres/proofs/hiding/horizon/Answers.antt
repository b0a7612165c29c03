use Rattle.std.proofs.Common.{sym}
use Rattle.std.specs.Prelude.{Some, None}
use Rattle.bound_spheres.proofs.Rising.{horizon_in, horizon_none, horizon_some, risen_end, risen_first, risen_next}
use Rattle.bound_spheres.proofs.hiding.horizon.Goals as goal

pub loop-next-init : goal.loop-next-init
loop-next-init c = risen_first c.centre_of-centre.result

pub rise-m-requires-clause-from : goal.rise-m-requires-clause-from
rise-m-requires-clause-from c = c.loop-next.invariant.high

pub loop-next-preserved : goal.loop-next-preserved
loop-next-preserved c = risen_next c.centre_of-centre.result c.args.boxes.now c.loop-next.next-index c.loop-next.m c.rise-m.result _
    c.corners_of.result c.loop-next-test.true c.corners_of.ensures.exact c.loop-next.invariant c.rise-m.ensures.low
    c.rise-m.ensures.high c.rise-m.ensures.hidden c.rise-m.ensures.before

pub returns-then-m-le4096-clause-exact : goal.returns-then-m-le4096-clause-exact
returns-then-m-le4096-clause-exact c = sym (horizon_some c.args.sphere.now c.args.boxes.now c.loop-next.m
    (risen_end c.args.sphere.now c.args.boxes.now c.centre_of-centre.result c.loop-next.next-index c.loop-next.m c.loop-next-test.false
    c.centre_of-centre.ensures.exact c.loop-next.invariant) c.if-m-le4096.true)

pub returns-then-m-le4096-clause-horizon : goal.returns-then-m-le4096-clause-horizon
returns-then-m-le4096-clause-horizon c = horizon_in c.args.sphere.now c.args.boxes.now (Some c.loop-next.m)
    (horizon_some c.args.sphere.now c.args.boxes.now c.loop-next.m
    (risen_end c.args.sphere.now c.args.boxes.now c.centre_of-centre.result c.loop-next.next-index c.loop-next.m c.loop-next-test.false
    c.centre_of-centre.ensures.exact c.loop-next.invariant) c.if-m-le4096.true)

pub returns-else-m-le4096-clause-exact : goal.returns-else-m-le4096-clause-exact
returns-else-m-le4096-clause-exact c = sym (horizon_none c.args.sphere.now c.args.boxes.now c.loop-next.m
    (risen_end c.args.sphere.now c.args.boxes.now c.centre_of-centre.result c.loop-next.next-index c.loop-next.m c.loop-next-test.false
    c.centre_of-centre.ensures.exact c.loop-next.invariant) c.if-m-le4096.false)

pub returns-else-m-le4096-clause-horizon : goal.returns-else-m-le4096-clause-horizon
returns-else-m-le4096-clause-horizon c = horizon_in c.args.sphere.now c.args.boxes.now None
    (horizon_none c.args.sphere.now c.args.boxes.now c.loop-next.m
    (risen_end c.args.sphere.now c.args.boxes.now c.centre_of-centre.result c.loop-next.next-index c.loop-next.m c.loop-next-test.false
    c.centre_of-centre.ensures.exact c.loop-next.invariant) c.if-m-le4096.false)
