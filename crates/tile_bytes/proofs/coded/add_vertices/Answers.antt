use Rattle.std.proofs.Common.{slice_index_or, rules, FitsSigned, w16, pos}
use Rattle.std.proofs.lemmas.Int.{to_z-of_z}
use Rattle.tile_mesh.specs.declared.point.MeshPoint.{MeshPoint}
use Rattle.tile_bytes.proofs.Steps.{vertices_step}
use Rattle.tile_bytes.proofs.coded.add_vertices.Goals as goal

pub loop-point-preserved : goal.loop-point-preserved
loop-point-preserved c =
    let none : MeshPoint = record { i = 0; j = 0; metres = pos 0 } in
    let fits : FitsSigned w16 (slice_index_or c.args.points.now c.loop-point.point-index none).metres = search rules in
    vertices_step c.args.frame.now c.args.coded.now c.loop-point.coded c.add_vertex.new.self c.args.points.now c.loop-point.point-index none _ _ _
    c.loop-point-test.true c.loop-point.invariant c.grid_line.ensures.value c.grid_line-in-loop-point.ensures.value
    (simp to_z-of_z at c.code-height.ensures.exact) c.in_ok-add_vertex.ensures.ok
