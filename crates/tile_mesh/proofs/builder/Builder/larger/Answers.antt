use Rattle.std.proofs.Common.{List, subst, ◌+◌}
use Rattle.mesh_plane.specs.Triangles.{Triple}
use Rattle.tile_mesh.specs.declared.point.GridPoint.{GridPoint}
use Rattle.tile_mesh.specs.Numbers.{Adds}
use Rattle.tile_mesh.specs.PlacedNodes.{as_midpoints}
use Rattle.tile_mesh.specs.Sides.{grid_point}
use Rattle.tile_mesh.specs.PlacedNodes.{ring_at}
use Rattle.tile_mesh.proofs.Steps.{adds_append}
use Rattle.tile_mesh.proofs.LeafLists.{fan_sides}
use Rattle.tile_mesh.proofs.builder.Builder.larger.Goals as goal

pub returns : goal.returns
returns c =
    let h = c.args.half in let i = c.args.i in let j = c.args.j in
    subst (λ (ts : List (Triple GridPoint)). Adds ts c.args.self.now.points.items c.side-4.new.self.points.items
    c.args.self.now.triangles.items c.side-4.new.self.triangles.items)
    (fan_sides (grid_point (i + h) (j + h)) (ring_at h i j (as_midpoints c.args.midpoints)))
    (adds_append _ _ _ _ _ _ _ _ c.in_ok-side.ensures (adds_append _ _ _ _ _ _ _ _ c.in_ok-side-2.ensures
    (adds_append _ _ _ _ _ _ _ _ c.in_ok-side-3.ensures c.in_ok-side-4.ensures)))
