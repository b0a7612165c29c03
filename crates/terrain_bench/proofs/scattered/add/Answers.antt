use Rattle.std.proofs.Common.{◌≡◌, false, ap, sym, ◌∙◌, subst}
use Rattle.std.specs.FinSet.{contains}
use Rattle.terrain_base.specs.CellKey.{key_at}
use Rattle.dted_cell.specs.Cell.{square_in, level_in}
use Rattle.cell_mosaic.specs.Whole.{shapes_of}
use Rattle.resample.proofs.Places.{none_held, is_none}
use Rattle.terrain_bench.proofs.scattered.add.Goals as goal

pub put-requires : goal.put-requires
put-requires c =
    let shapes = shapes_of c.args.cells.now.cells.entries in
    let cell = c.in-Ok-check.cell in
    subst (λ s. contains shapes (key_at s (level_in cell)) ≡ false) (c.square.ensures ∙ ap square_in c.view.ensures)
    (none_held shapes c.square.result (level_in cell) (is_none c.shape.result (sym c.is_some.ensures ∙ c.if-is_some.false) ∙ c.shape.ensures))
