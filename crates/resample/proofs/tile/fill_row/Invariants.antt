use Rattle.std.proofs.Common.{◌≡◌, ◌+◌, ◌<◌, Some, length}
use Rattle.std.specs.Prelude.{Ok}
use Rattle.cell_mosaic.specs.Cells.{Cells}
use Rattle.cell_mosaic.specs.Source.{Leaves}
use Rattle.resample.specs.Block.{Fills}
use Rattle.resample.proofs.tile.fill_row.Given as goal

abbrev pub invariant-loop-i : goal.invariant-loop-i
invariant-loop-i g l =
    let source = g.P.PostSource in
    let store = g.S.Store in
    (Leaves source.cells source.shapes source.sure source.spoilt store.holds store.log store.faults l.fn.src l.src l.fn.store l.store (Ok (tt {0})))
    × ((told : Cells) → source.cells l.fn.src (store.holds l.fn.store) ≡ Some told → Fills l.fill told l.block.tile l.block.columns.first l.i l.j (l.j + 1) l.fn.out l.out)
    × (l.block.columns.first < l.i → length l.out ≡ 4489)
