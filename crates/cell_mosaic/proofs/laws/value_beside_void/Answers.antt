use Rattle.cell_mosaic.proofs.ValueLaws.{value_beside_void}
use Rattle.cell_mosaic.proofs.laws.value_beside_void.Goals as goal

pub returns : goal.returns
returns c = value_beside_void
