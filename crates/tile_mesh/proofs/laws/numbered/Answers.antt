-- The law of a mesh's numbers.
use Rattle.tile_mesh.proofs.MeshNumbers.{numbered_law}
use Rattle.tile_mesh.proofs.laws.numbered.Goals as goal

pub returns : goal.returns
returns c = numbered_law
