-- The triangles so far, by their corners.
use Rattle.std.proofs.Common.{◌≡◌, take, map}
use Rattle.mesh_query.specs.Field.{tri_at}
use Rattle.mesh_query.proofs.field.tris_of.Given as goal

abbrev pub invariant-loop-t : goal.invariant-loop-t
invariant-loop-t l = l.tris.items ≡ map (tri_at l.corners) (take l.t-index l.indexes)
