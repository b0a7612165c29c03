use Rattle.cell_mosaic.proofs.ValueLaws.{value_by_corners}
use Rattle.cell_mosaic.proofs.laws.value_by_corners.Goals as goal

pub returns : goal.returns
returns c = value_by_corners
