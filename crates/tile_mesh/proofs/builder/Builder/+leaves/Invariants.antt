use Rattle.tile_mesh.proofs.builder.Builder.+leaves.Given as goal

abbrev pub decreases-leaves : goal.decreases-leaves
decreases-leaves l = l.node.level
