use Rattle.std.proofs.Common.{◌≡◌, map, take}
use Rattle.tile_rule.specs.Tile.{vertex_box}
use Rattle.tile_bytes.proofs.vertex_boxes.boxes.Given as goal

abbrev pub invariant-loop-point : goal.invariant-loop-point
invariant-loop-point l = l.boxes.items ≡ map (vertex_box l.fn.tile) (take l.point-index l.points)
