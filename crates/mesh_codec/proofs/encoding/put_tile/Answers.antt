use Rattle.mesh_codec.proofs.Marks.{within_mark}
use Rattle.mesh_codec.proofs.encoding.put_tile.Goals as goal

pub put_indexes-requires-clause-in_order : goal.put_indexes-requires-clause-in_order
put_indexes-requires-clause-in_order c = within_mark c.args.mesh.now c.requires
