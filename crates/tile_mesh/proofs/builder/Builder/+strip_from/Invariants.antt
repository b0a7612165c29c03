use Rattle.std.proofs.Common.{◌+◌, length}
use Rattle.tile_mesh.proofs.builder.Builder.+strip_from.Given as goal

abbrev pub decreases-strip_from : goal.decreases-strip_from
decreases-strip_from l = length l.outer.now + length l.inner.now
