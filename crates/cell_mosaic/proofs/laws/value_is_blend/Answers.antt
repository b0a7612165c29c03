use Rattle.cell_mosaic.proofs.ValueLaws.{value_is_blend}
use Rattle.cell_mosaic.proofs.laws.value_is_blend.Goals as goal

pub returns : goal.returns
returns c = value_is_blend
