-- The law of the tolerance.
use Rattle.tile_mesh.proofs.Following.{mesh_keeps_tolerance}
use Rattle.tile_mesh.proofs.laws.tolerance.Goals as goal

pub returns : goal.returns
returns c = mesh_keeps_tolerance
