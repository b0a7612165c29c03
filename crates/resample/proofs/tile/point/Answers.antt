use Rattle.std.proofs.Common.{◌≡◌, Some, subst, w16}
use Rattle.std.specs.Prelude.{IfOk, ℤ}
use Rattle.std.proofs.lemmas.Int.{to_z-of_z}
use Rattle.cell_mosaic.specs.Cells.{Cells}
use Rattle.resample.specs.Height.{height_at}
use Rattle.resample.proofs.tile.point.Goals as goal

pub returns-then-east-eq0-clause-value : goal.returns-then-east-eq0-clause-value
returns-then-east-eq0-clause-value g c =
    subst (λ (fill : ℤ). IfOk c.height.result (λ metres. (told : Cells) → g.P.PostSource.cells c.args.src.now (g.S.Store.holds c.args.store.now) ≡ Some told → metres ≡ height_at fill told c.args.place))
    (to_z-of_z w16 c.args.fill c.ranges.fill) c.height.ensures.value

pub returns-clause-value : goal.returns-clause-value
returns-clause-value g c =
    subst (λ (fill : ℤ). IfOk c.inside.result (λ metres. (told : Cells) → g.P.PostSource.cells c.args.src.now (g.S.Store.holds c.args.store.now) ≡ Some told → metres ≡ height_at fill told c.args.place))
    (to_z-of_z w16 c.args.fill c.ranges.fill) c.inside.ensures.value
