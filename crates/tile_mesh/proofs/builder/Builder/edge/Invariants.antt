use Rattle.std.proofs.Common.{◌≡◌, ◌++◌, ◌-◌, map}
use Rattle.std.specs.Prelude.{filter_map, position}
use Rattle.std.specs.List.{range_with_len}
use Rattle.tile_mesh.specs.Mesh.{edge_numbers}
use Rattle.tile_mesh.specs.Numbers.{point_eq}
use Rattle.tile_mesh.specs.Sides.{outer_at}
use Rattle.tile_mesh.proofs.builder.Builder.edge.Given as goal

abbrev pub invariant-loop-index : goal.invariant-loop-index
invariant-loop-index l =
    l.numbers.items ++ filter_map (λ p. position (point_eq p) l.self.points.items) (map (outer_at l.side) (range_with_len l.index (67 - l.index)))
    ≡ edge_numbers l.self.points.items l.side
