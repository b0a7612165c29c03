use Rattle.std.proofs.Common.{List, subst, sym}
use Rattle.tile_mesh.specs.declared.point.GridPoint.{GridPoint}
use Rattle.tile_mesh.specs.Numbers.{AreOnGrid}
use Rattle.tile_mesh.proofs.Counts.{on_grid_at}
use Rattle.tile_mesh.proofs.builder.Builder.vertices.Goals as goal

pub get-metres-requires-clause-column : goal.get-metres-requires-clause-column
get-metres-requires-clause-column c =
    (on_grid_at c.deref-point-items.result.now
    (subst (λ (qs : List GridPoint). AreOnGrid qs) (sym c.deref-point-items.ensures.value) c.args.self.now.on_grid)
    c.loop-point.point-index _ c.loop-point-test.true).column

pub get-metres-requires-clause-row : goal.get-metres-requires-clause-row
get-metres-requires-clause-row c =
    (on_grid_at c.deref-point-items.result.now
    (subst (λ (qs : List GridPoint). AreOnGrid qs) (sym c.deref-point-items.ensures.value) c.args.self.now.on_grid)
    c.loop-point.point-index _ c.loop-point-test.true).row
