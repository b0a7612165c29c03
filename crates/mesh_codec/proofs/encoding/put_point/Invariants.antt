use Rattle.std.proofs.Common.{◌≡◌, ◌++◌, drop}
use Rattle.mesh_codec.specs.Text.{point_text}
use Rattle.mesh_codec.proofs.encoding.put_point.Given as goal

abbrev pub invariant-loop-coordinate : goal.invariant-loop-coordinate
invariant-loop-coordinate l = l.out.items ++ point_text (drop l.coordinate-index l.point) ≡ l.fn.out.items ++ point_text l.point
