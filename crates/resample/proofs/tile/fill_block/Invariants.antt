use Rattle.std.proofs.Common.{◌≡◌, ◌<◌, Some, length}
use Rattle.std.specs.Prelude.{Ok}
use Rattle.cell_mosaic.specs.Cells.{Cells}
use Rattle.cell_mosaic.specs.Source.{Leaves}
use Rattle.resample.specs.Block.{Fills}
use Rattle.resample.specs.Line.{AreGridLines}
use Rattle.resample.proofs.tile.fill_block.Given as goal

abbrev pub invariant-loop-j : goal.invariant-loop-j
invariant-loop-j g l =
    let source = g.P.PostSource in
    let store = g.S.Store in
    (Leaves source.cells source.shapes source.sure source.spoilt store.holds store.log store.faults l.fn.src l.src l.fn.store l.store (Ok (tt {0})))
    × ((told : Cells) → source.cells l.fn.src (store.holds l.fn.store) ≡ Some told → Fills l.fill told l.block.tile l.block.columns.first l.block.columns.end l.block.rows.first l.j l.fn.out l.out)
    × (l.block.rows.first < l.j → length l.out ≡ 4489)
    × AreGridLines l.block.tile l.lines
