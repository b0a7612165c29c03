use Rattle.cell_mosaic.proofs.BlendLaws.{first_is_heaviest}
use Rattle.cell_mosaic.proofs.laws.first_is_heaviest.Goals as goal

pub returns : goal.returns
returns c = first_is_heaviest
