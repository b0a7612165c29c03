use Rattle.cell_mosaic.proofs.ValueLaws.{value_is_between}
use Rattle.cell_mosaic.proofs.laws.value_is_between.Goals as goal

pub returns : goal.returns
returns c = value_is_between
