-- The kept triangles are those of the mesh.
use Rattle.mesh_query.proofs.FieldIs.{low_tris, few_tris}
use Rattle.mesh_query.proofs.field.MeshField.tris.Goals as goal

pub returns-clause-low : goal.returns-clause-low
returns-clause-low c = rw (c.deref.ensures.value, c.self.invariant.1) (low_tris _ c.self.invariant.0)

pub returns-clause-few : goal.returns-clause-few
returns-clause-few c = rw (c.deref.ensures.value, c.self.invariant.1) (few_tris _ c.self.invariant.0)
