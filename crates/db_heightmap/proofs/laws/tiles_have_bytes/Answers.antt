use Rattle.db_heightmap.proofs.Lengths.{has_bytes}
use Rattle.db_heightmap.proofs.laws.tiles_have_bytes.Goals as goal

pub returns : goal.returns
returns c = has_bytes
