-- The triangles so far.
use Rattle.std.proofs.Common.{◌≡◌, map, take}
use Rattle.mesh_check.specs.CodeMesh.{tri_of}
use Rattle.mesh_check.proofs.mesh.triangles_of.Given as goal

abbrev pub invariant-loop-triangle : goal.invariant-loop-triangle
invariant-loop-triangle l = l.triangles.items ≡ map (tri_of l.mesh) (take l.triangle-index l.indexes)
