use Rattle.std.proofs.Common.{◌≡◌, ◌++◌, drop}
use Rattle.std.specs.List.{flat_map}
use Rattle.byteorder.specs.Endian.{little_bytes}
use Rattle.mesh_codec.specs.Text.{index_width, edge_text}
use Rattle.mesh_codec.proofs.encoding.put_edge.Given as goal

abbrev pub invariant-loop-vertex : goal.invariant-loop-vertex
invariant-loop-vertex l = l.out.items ++ flat_map (little_bytes (index_width l.vertices)) (drop l.vertex-index l.list) ≡ l.fn.out.items ++ edge_text (index_width l.vertices) l.list
