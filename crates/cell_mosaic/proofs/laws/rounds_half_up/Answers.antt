use Rattle.cell_mosaic.proofs.BlendLaws.{rounds_half_up}
use Rattle.cell_mosaic.proofs.laws.rounds_half_up.Goals as goal

pub returns : goal.returns
returns c = rounds_half_up
