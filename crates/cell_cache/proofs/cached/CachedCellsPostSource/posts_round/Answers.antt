use Rattle.cell_cache.proofs.cached.CachedCellsPostSource.posts_round.Goals as goal

pub returns-in-Some-clause-value : goal.returns-in-Some-clause-value
returns-in-Some-clause-value g c = c.in-Some.ensures.value (g.S.Store.holds c.args.store.now)
