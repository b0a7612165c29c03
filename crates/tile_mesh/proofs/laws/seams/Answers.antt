use Rattle.tile_mesh.proofs.Seams.{seam_law}
use Rattle.tile_mesh.proofs.laws.seams.Goals as goal

pub returns : goal.returns
returns c = seam_law
