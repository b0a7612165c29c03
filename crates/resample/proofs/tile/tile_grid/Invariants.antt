use Rattle.std.proofs.Common.{◌≡◌, ◌-◌, ◌<◌, ◌≤◌, Some, length}
use Rattle.std.specs.Prelude.{Ok}
use Rattle.cell_mosaic.specs.Cells.{Cells}
use Rattle.cell_mosaic.specs.Source.{Leaves}
use Rattle.resample.specs.Block.{Fills}
use Rattle.resample.specs.Line.{AreGridLines}
use Rattle.resample.proofs.tile.tile_grid.Given as goal

abbrev pub invariant-loop-j : goal.invariant-loop-j
invariant-loop-j g l =
    let source = g.P.PostSource in
    let store = g.S.Store in
    (Leaves source.cells source.shapes source.sure source.spoilt store.holds store.log store.faults l.fn.src l.src l.fn.store l.store (Ok (tt {0})))
    × ((told : Cells) → source.cells l.fn.src (store.holds l.fn.store) ≡ Some told → Fills l.fill told l.tile 0 67 0 l.j l.fn.out l.out)
    × (0 < l.j → length l.out ≡ 4489)
    × AreGridLines l.tile l.lines
    × (l.j ≤ 67)

abbrev pub decreases-loop-j : goal.decreases-loop-j
decreases-loop-j g l = 67 - l.j
