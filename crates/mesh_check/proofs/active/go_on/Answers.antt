-- What is taken up and not let go.
use Rattle.mesh_check.proofs.Actives.{through}
use Rattle.mesh_check.proofs.active.go_on.Goals as goal

pub take_up-requires : goal.take_up-requires
take_up-requires c = c.requires.begun.within

pub returns : goal.returns
returns c =
    through c.args.spans.now c.args.active.now c.take_up.new.active c.let_go.new.active c.args.low c.args.high
    c.requires.order c.requires.begun c.in_ok-take_up.ensures.taken c.in_ok-take_up.ensures.rest
    c.let_go.ensures.items c.let_go.ensures.next
