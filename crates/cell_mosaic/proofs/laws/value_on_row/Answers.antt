use Rattle.cell_mosaic.proofs.ValueLaws.{value_on_row}
use Rattle.cell_mosaic.proofs.laws.value_on_row.Goals as goal

pub returns : goal.returns
returns c = value_on_row
