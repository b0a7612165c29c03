use Rattle.heightmap_out.proofs.ReadBack.{reads_back}
use Rattle.heightmap_out.proofs.laws.tiles_read_back.Goals as goal

pub returns : goal.returns
returns c = reads_back
