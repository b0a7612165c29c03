use Rattle.std.proofs.Common.{ap, ◌∙◌}
use Rattle.std.specs.FinSet.{contains, contains-empty}
use Rattle.terrain_base.specs.CellKey.{key_cmp}
use Rattle.cell_mosaic.specs.Cells.{Shapes}
use Rattle.cell_mosaic.specs.Whole.{key_in}
use Rattle.terrain_bench.proofs.grids.land_at.Goals as goal

pub put-requires : goal.put-requires
put-requires c =
    ap (λ (shapes : Shapes). contains shapes (key_in c.in-Ok.cell)) c.new-cells.ensures.shapes ∙ contains-empty key_cmp (key_in c.in-Ok.cell)
