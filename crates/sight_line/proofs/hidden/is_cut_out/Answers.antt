-- A crossing lies on the way.
use Rattle.mesh_query.specs.Found.{at_place}
use Rattle.mesh_query.proofs.Adding.{on_way}
use Rattle.sight_line.proofs.hidden.is_cut_out.Goals as goal

pub dips-requires-clause-on_way : goal.dips-requires-clause-on_way
dips-requires-clause-on_way c =
    on_way (at_place c.args.line.now.from) (at_place c.args.line.now.to) c.args.a.now c.args.b.now c.in-Some.crossing
    c.in-Some.ensures.some
