use Rattle.std.proofs.Common.{◌≡◌, ◌++◌, map, drop}
use Rattle.tile_mesh.specs.Mesh.{vertex_at}
use Rattle.tile_mesh.proofs.builder.Builder.vertices.Given as goal

abbrev pub invariant-loop-point : goal.invariant-loop-point
invariant-loop-point l =
    l.vertices.items ++ map (vertex_at l.grid) (drop l.point-index l.point-items) ≡ map (vertex_at l.grid) l.self.points.items
