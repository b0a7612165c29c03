use Rattle.tile_mesh.specs.Rule.{leaf_triangles}
use Rattle.tile_mesh.proofs.builder.Builder.all_leaves.Goals as goal

pub returns : goal.returns
unfolding leaf_triangles
returns c = c.leaves.ensures
