-- The law of numbers.
use Rattle.tile_mesh.proofs.FirstUses.{numbering_law}
use Rattle.tile_mesh.proofs.laws.numbering.Goals as goal

pub returns : goal.returns
returns c = numbering_law
