use Rattle.std.proofs.Common.{◌∙◌}
use Rattle.terrain_base.specs.CellKey.{key_at}
use Rattle.cell_mosaic.proofs.WholeMaps.{has_is}
use Rattle.cell_mosaic.proofs.whole.WholeCells.has.Goals as goal

pub returns : goal.returns
returns c = c.contains_key.ensures ∙ has_is c.args.self.now.cells.entries (key_at c.args.square c.args.level)
