-- The law of inner points.
use Rattle.tile_mesh.proofs.InnerCorners as corners
use Rattle.tile_mesh.proofs.laws.inner_line.Goals as goal

pub returns : goal.returns
returns c = corners.inner_law
