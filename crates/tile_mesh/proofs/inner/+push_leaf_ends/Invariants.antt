use Rattle.tile_mesh.proofs.inner.+push_leaf_ends.Given as goal

abbrev pub decreases-push_leaf_ends : goal.decreases-push_leaf_ends
decreases-push_leaf_ends l = l.level
