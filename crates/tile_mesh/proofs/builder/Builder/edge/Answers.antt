use Rattle.std.proofs.Common.{◌∙◌, ap, refl, ◌++◌, []}
use Rattle.std.specs.Prelude.{position}
use Rattle.std.specs.List.{cons_option}
use Rattle.tile_mesh.specs.declared.point.GridPoint.{GridPoint}
use Rattle.tile_mesh.specs.Mesh.{edge_points}
use Rattle.tile_mesh.specs.Numbers.{point_eq}
use Rattle.tile_mesh.specs.Sides.{outer_at}
use Rattle.tile_mesh.proofs.Ranges.{numbers_step}
use Rattle.tile_mesh.proofs.builder.Builder.edge.Goals as goal

pub loop-index-init : goal.loop-index-init
unfolding edge_points
loop-index-init c = rw c.new-numbers.ensures.items refl

pub loop-index-preserved : goal.loop-index-preserved
loop-index-preserved c =
    let h = λ (p : GridPoint). position (point_eq p) c.args.self.now.points.items in
    numbers_step h (outer_at c.args.side) c.loop-index.numbers.items c.push_number.new.numbers.items
    c.loop-index.index 67 c.loop-index-test.true
    (c.in_ok-push_number.ensures
    ∙ ap (λ (p : GridPoint). c.loop-index.numbers.items ++ cons_option (h p) []) c.outer_point.ensures.point)
    ∙ c.loop-index.invariant
