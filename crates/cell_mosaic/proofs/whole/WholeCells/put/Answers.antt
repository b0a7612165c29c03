use Rattle.std.proofs.Common.{Some, ap, ◌∙◌}
use Rattle.std.specs.FinMap.{insert}
use Rattle.std.specs.FinSet as set
use Rattle.cell_mosaic.specs.Whole.{cells_of, shapes_of}
use Rattle.cell_mosaic.proofs.WholeMaps.{good_after, cells-insert, shapes-insert, key_is}
use Rattle.cell_mosaic.proofs.whole.WholeCells.put.Goals as goal

pub invariant_of-self : goal.invariant_of-self
invariant_of-self c = record {
  good = good_after c.args.self.now.cells c.insert.new.self c.key_of-key.result c.args.cell c.insert.result c.insert.ensures.updates c.insert.ensures.err c.key_of-key.ensures c.args.self.now.good;
}

pub returns-in-Ok-clause-cells : goal.returns-in-Ok-clause-cells
returns-in-Ok-clause-cells c files =
    ap Some (cells-insert c.args.self.now.cells c.insert.new.self c.key_of-key.result c.args.cell c.in-Ok.ensures.updates
    ∙ ap (λ k. insert (cells_of c.args.self.now.cells.entries) k c.args.cell) (key_is c.key_of-key.result c.args.cell c.key_of-key.ensures))

pub returns-in-Ok-clause-shapes : goal.returns-in-Ok-clause-shapes
returns-in-Ok-clause-shapes c =
    shapes-insert c.args.self.now.cells c.insert.new.self c.key_of-key.result c.args.cell c.in-Ok.ensures.updates
    ∙ ap (set.insert (shapes_of c.args.self.now.cells.entries)) (key_is c.key_of-key.result c.args.cell c.key_of-key.ensures)
