use Rattle.std.proofs.Common.{◌≡◌, ◌+◌, length}
use Rattle.mesh_codec.specs.Tile.{edge_list}
use Rattle.db_report.proofs.tile.count_on.Given as goal

abbrev pub invariant-loop-vertex : goal.invariant-loop-vertex
invariant-loop-vertex l = l.count + length l._vertex-iterator ≡ length (edge_list l.fn.view l.fn.edge)
