use Rattle.std.proofs.Common.{rules, ◌≡◌, ◌∙◌, ap, refl, w16, to_z, of_z, length}
use Rattle.std.specs.Prelude.{slice_set}
use Rattle.tile_mesh.specs.declared.point.GridPoint.{GridPoint}
use Rattle.tile_mesh.specs.Mesh.{vertex_at, edge_heights}
use Rattle.tile_mesh.specs.Sides.{outer_at}
use Rattle.tile_mesh.proofs.Ranges.{heights_step}
use Rattle.tile_mesh.proofs.kept.heights_along.Goals as goal

pub loop-index-init : goal.loop-index-init
unfolding edge_heights
loop-index-init c = (refl, refl)

pub loop-index-preserved : goal.loop-index-preserved
loop-index-preserved c =
    let e : to_z w16 (of_z w16 c.get.result) ≡ c.get.result = search rules in
    let l : length (slice_set c.loop-index.heights c.loop-index.index (to_z w16 (of_z w16 c.get.result))) ≡ 67 = search rules in (
      l,
      heights_step (λ i. (vertex_at c.args.grid.now (outer_at c.args.side i)).metres) c.loop-index.heights
          c.loop-index.index 67 (to_z w16 (of_z w16 c.get.result)) c.loop-index-test.true c.loop-index.invariant.0
          (e ∙ c.get.ensures.value ∙ ap (λ (p : GridPoint). (vertex_at c.args.grid.now p).metres) c.outer_point-point.ensures.point)
          ∙ c.loop-index.invariant.1,
    )
