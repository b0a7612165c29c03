use Rattle.cell_cache.proofs.Told.{quad_told, reaches_round}
use Rattle.cell_cache.proofs.cached.CachedCellsPostSource.round_at_hand.Goals as goal

pub last_quad-requires : goal.last_quad-requires
last_quad-requires c = record {
  reaches = reaches_round c.args.self.now.summaries.items c.args.self.now.cells.entries c.args.key c.args.col c.args.row
      c.args.on_column c.args.on_row c.args.self.now.held c.requires.sw c.requires.se c.requires.nw;
}

pub returns-clause-value : goal.returns-clause-value
returns-clause-value c = quad_told c.args.self.now.summaries.items c.args.self.now.cells.entries c.args.key c.args.col c.args.row
    c.args.on_column c.args.on_row c.last_quad.result c.args.self.now.held c.requires.sw.held c.last_quad.ensures
