use Rattle.tile_mesh.proofs.Lengths.{few_triangles}
use Rattle.tile_mesh.proofs.laws.few_triangles.Goals as goal

pub returns : goal.returns
returns c = few_triangles
