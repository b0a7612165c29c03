use Rattle.cell_mosaic.proofs.ValueLaws.{value_on_column}
use Rattle.cell_mosaic.proofs.laws.value_on_column.Goals as goal

pub returns : goal.returns
returns c = value_on_column
