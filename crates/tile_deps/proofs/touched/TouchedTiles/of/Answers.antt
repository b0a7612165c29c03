use Rattle.tile_deps.proofs.Numbered.{from_first}
use Rattle.tile_deps.proofs.touched.TouchedTiles.of.Goals as goal

pub returns : goal.returns
returns c = from_first c.args.index.now.cap c.args.square c.first_touched.result (c.first_touched.ensures c.args.index.now.cap)
