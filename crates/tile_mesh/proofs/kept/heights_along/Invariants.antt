use Rattle.std.proofs.Common.{◌≡◌, ◌++◌, ◌-◌, map, take, length}
use Rattle.std.specs.List.{range_with_len}
use Rattle.tile_mesh.specs.Mesh.{vertex_at, edge_heights}
use Rattle.tile_mesh.specs.Sides.{outer_at}
use Rattle.tile_mesh.proofs.kept.heights_along.Given as goal

abbrev pub invariant-loop-index : goal.invariant-loop-index
invariant-loop-index l =
    (length l.heights ≡ 67)
    × (take l.index l.heights ++ map (λ i. (vertex_at l.grid (outer_at l.side i)).metres) (range_with_len l.index (67 - l.index))
    ≡ edge_heights l.grid l.side)
