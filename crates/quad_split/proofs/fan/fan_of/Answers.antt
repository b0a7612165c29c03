use Rattle.std.proofs.Common.{◌∙◌, ap, ◌-◌, ◌^◌, ℕ}
use Rattle.mesh_plane.specs.Quadtree.{line_of}
use Rattle.quad_split.specs.Node.{level_of, column_of, row_of}
use Rattle.quad_split.proofs.NodeLines.{level_is}
use Rattle.quad_split.proofs.FanLines.{fan_is}
use Rattle.quad_split.proofs.fan.fan_of.Goals as goal

pub returns : goal.returns
returns c =
    let node = c.args.node.now in
    let l = level_is node.side c.requires.side in
    let side = c.requires.node.side ∙ ap (λ (n : ℕ). 2 ^ n) l in
    let i = c.requires.node.column ∙ ap (λ (n : ℕ). line_of n (column_of node)) l in
    let j = c.requires.node.row ∙ ap (λ (n : ℕ). line_of n (row_of node)) l in
    fan_is (level_of node.side - 1) (column_of node) (row_of node) node.i node.j node.side side i j
