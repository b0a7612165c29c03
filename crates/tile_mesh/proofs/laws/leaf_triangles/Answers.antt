-- The law of the leaves' triangles.
use Rattle.tile_mesh.proofs.LeafPlaces.{leaf_law}
use Rattle.tile_mesh.proofs.laws.leaf_triangles.Goals as goal

pub returns : goal.returns
returns c = leaf_law
