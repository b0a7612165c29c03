-- The law of the cover.
use Rattle.tile_mesh.proofs.Made.{mesh_covers}
use Rattle.tile_mesh.proofs.laws.cover.Goals as goal

pub returns : goal.returns
returns c = mesh_covers
