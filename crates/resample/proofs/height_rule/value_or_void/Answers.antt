use Rattle.resample.proofs.Places.{no_value}
use Rattle.resample.proofs.height_rule.value_or_void.Goals as goal

pub returns-in-None-clause-value : goal.returns-in-None-clause-value
returns-in-None-clause-value g c told is =
    no_value told (g.P.PostSource.shapes c.args.src.now) c.args.square c.args.place
    (g.met.P.PostSource.agree c.args.src.now (g.S.Store.holds c.args.store.now) told is) c.in-None.ensures
