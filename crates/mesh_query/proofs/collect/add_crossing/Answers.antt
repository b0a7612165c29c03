-- One crossing more, or none.
use Rattle.mesh_query.specs.Found.{at_place}
use Rattle.mesh_query.proofs.Adding.{on_way, crossed, not_crossed}
use Rattle.mesh_query.proofs.collect.add_crossing.Goals as goal

pub with_rank-requires : goal.with_rank-requires
with_rank-requires c =
    on_way (at_place c.args.from.now) (at_place c.args.to.now) c.args.a.now c.args.b.now c.in-Some.crossing
    c.in-Some.ensures.some

pub returns-in_ok-push-in-Some : goal.returns-in_ok-push-in-Some
returns-in_ok-push-in-Some c =
    rw c.in_ok-push-in-Some.ensures.items
    (λ sides h. crossed (at_place c.args.from.now) (at_place c.args.to.now) sides c.args.found.now.items c.args.a.now
    c.args.b.now c.with_rank.result c.in-Some.crossing c.in-Some.ensures.some c.with_rank.ensures.rank
    c.with_rank.ensures.crossing h)

pub returns-in-None : goal.returns-in-None
returns-in-None c =
    λ sides h. not_crossed (at_place c.args.from.now) (at_place c.args.to.now) sides c.args.found.now.items c.args.a.now
    c.args.b.now c.in-None.ensures.none h
