use Rattle.std.proofs.Common.{◌≡◌, drop, Some}
use Rattle.std.specs.Prelude.{Ok}
use Rattle.cell_mosaic.specs.Cells.{Cells}
use Rattle.cell_mosaic.specs.Source.{Leaves}
use Rattle.resample.specs.Height.{first_height}
use Rattle.resample.proofs.Firsts.{values_at}
use Rattle.resample.proofs.height_rule.height.Given as goal

abbrev pub invariant-loop-k : goal.invariant-loop-k
invariant-loop-k g l =
    let source = g.P.PostSource in
    let store = g.S.Store in
    (Leaves source.cells source.shapes source.sure source.spoilt store.holds store.log store.faults l.fn.src l.src l.fn.store l.store (Ok (tt {0})))
    × ((told : Cells) → source.cells l.fn.src (store.holds l.fn.store) ≡ Some told
    → first_height l.fill (values_at told l.place (drop l.k l.squares)) ≡ first_height l.fill (values_at told l.place l.squares))
