use Rattle.std.proofs.Common.{◌≡◌, ◌∙◌, ap, sym, subst, List, ◌/◌, OnOk}
use Rattle.mesh_plane.specs.Triangles.{Triple}
use Rattle.mesh_plane.specs.Quadtree as quadtree
use Rattle.mesh_plane.specs.Quadtree.{leaves}
use Rattle.tile_mesh.specs.declared.point.GridPoint.{GridPoint}
use Rattle.tile_mesh.specs.Numbers.{Adds}
use Rattle.quad_split.specs.Midpoints.{midpoints_of}
use Rattle.quad_split.specs.SplitMap.{bit_at}
use Rattle.tile_mesh.specs.Sides.{grid_point}
use Rattle.tile_mesh.specs.PlacedNodes.{as_midpoints, leaf_at}
use Rattle.tile_mesh.proofs.LeafLists.{split_adds, leaf_is}
use Rattle.tile_mesh.proofs.builder.Builder.+leaves.Goals as goal

pub returns-then-split_at : goal.returns-then-split_at
returns-then-split_at t c =
    let p = bit_at c.args.splits.now in
    split_adds p (midpoints_of p) c.args.node c.quarter.result c.quarter-then-split_at.result
    c.quarter-then-split_at-2.result c.quarter-then-split_at-3.result
    c.if-node-eq0.false (sym c.if-split_at.ensures) c.quarter.ensures c.quarter-then-split_at.ensures
    c.quarter-then-split_at-2.ensures c.quarter-then-split_at-3.ensures
    _ _ _ _ _ _ _ _ _ _ c.in_ok-leaves.ensures c.in_ok-leaves-2.ensures c.in_ok-leaves-3.ensures
    c.in_ok-leaves-4.ensures

pub returns : goal.returns
returns t c =
    let n = c.args.node in let p = bit_at c.args.splits.now in
    let e : leaf_at (n.side / 2) n.i n.j (as_midpoints c.midpoints_at.result)
    ≡ leaves grid_point p (midpoints_of p) n.level n.x n.y =
    ap (λ (m : quadtree.Midpoints). leaf_at (n.side / 2) n.i n.j m) c.midpoints_at.ensures
    ∙ sym (leaf_is p (midpoints_of p) n c.if-node-eq0.false (sym c.if-split_at.ensures) c.requires.node) in
    subst (λ (ts : List (Triple GridPoint)). OnOk c.larger.result (Adds ts c.args.self.now.points.items
    c.larger.new.self.points.items c.args.self.now.triangles.items c.larger.new.self.triangles.items)) e
    c.larger.ensures
