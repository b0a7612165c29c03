use Rattle.std.proofs.Common.{◌≡◌, ◌<◌, false, ap, sym, ◌∙◌, subst, arith}
use Rattle.std.specs.FinSet.{contains}
use Rattle.terrain_base.specs.CellKey.{key_at}
use Rattle.terrain_base.specs.Level.{level_number as number_of}
use Rattle.dted_cell.specs.Cell.{square_in, level_in}
use Rattle.cell_mosaic.specs.Whole.{shapes_of}
use Rattle.resample.proofs.Places.{none_finer}
use Rattle.resample.proofs.tests.add_finer.Goals as goal

pub put-requires : goal.put-requires
put-requires c =
    let shapes = shapes_of c.args.cells.now.cells.entries in
    let cell = c.in-Ok-check.cell in
    let level = c.level.ensures ∙ ap level_in c.view-view.ensures in
    let wanted = c.level_number-wanted.ensures.value ∙ ap number_of level in
    let found = c.level_number-found.ensures.value in
    let less : number_of c.in-Some.finest < number_of (level_in cell) = omega (arith, wanted, found) in
    subst (λ s. contains shapes (key_at s (level_in cell)) ≡ false) (c.square-square.ensures ∙ ap square_in c.view-view.ensures)
    (none_finer shapes c.square-square.result (level_in cell) c.in-Some.finest c.in-Some.ensures less)
