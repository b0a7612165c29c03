use Rattle.std.proofs.Common.{List, [], subst}
use Rattle.terrain_base.specs.declared.indexes.Indexes.{Indexes}
use Rattle.tile_mesh.specs.declared.point.GridPoint.{GridPoint}
use Rattle.quad_split.specs.SplitMap.{bit_at}
use Rattle.tile_mesh.specs.Mesh.{kept_on}
use Rattle.tile_mesh.specs.Numbers.{Adds}
use Rattle.tile_mesh.specs.Rule.{triangles_of}
use Rattle.tile_mesh.proofs.Steps.{adds_append}
use Rattle.tile_mesh.proofs.build.triangulated.Goals as goal

pub returns : goal.returns
unfolding triangles_of
returns c =
    let ts = triangles_of (bit_at c.args.splits.now) (kept_on c.args.grid.now c.args.tol) in
    let keys = c.all_leaves.new.self.points.items in let is = c.all_leaves.new.self.triangles.items in
    subst (λ (ks : List GridPoint). Adds ts ks keys [] is) c.in_ok-builder.ensures.points
    (subst (λ (js : List Indexes). Adds ts c.in_ok-builder.builder.points.items keys js is) c.in_ok-builder.ensures.triangles
    (adds_append _ _ _ _ _ _ _ _ c.in_ok-border.ensures (adds_append _ _ _ _ _ _ _ _ c.in_ok-border-2.ensures
    (adds_append _ _ _ _ _ _ _ _ c.in_ok-border-3.ensures (adds_append _ _ _ _ _ _ _ _ c.in_ok-border-4.ensures
    c.in_ok-all_leaves.ensures)))))
