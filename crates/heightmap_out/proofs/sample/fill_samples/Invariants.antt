use Rattle.std.proofs.Common.{◌≡◌, Some, length}
use Rattle.std.specs.Prelude.{Ok}
use Rattle.cell_mosaic.specs.Cells.{Cells}
use Rattle.cell_mosaic.specs.Source.{Leaves}
use Rattle.heightmap_out.proofs.Samples.{HasFirst}
use Rattle.heightmap_out.proofs.sample.fill_samples.Given as goal

abbrev pub invariant-loop-k : goal.invariant-loop-k
invariant-loop-k g l =
    let source = g.P.PostSource in
    let store = g.S.Store in
    (Leaves source.cells source.shapes source.sure source.spoilt store.holds store.log store.faults l.fn.src l.src
    l.fn.store l.store (Ok (tt {0})))
    × ((told : Cells) → source.cells l.fn.src (store.holds l.fn.store) ≡ Some told
    → HasFirst l.params.fill told l.tile l.out l.k)
    × (length l.out ≡ 4225)
