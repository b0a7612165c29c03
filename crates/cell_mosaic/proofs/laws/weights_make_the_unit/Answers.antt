use Rattle.cell_mosaic.proofs.BlendLaws.{weights_make_the_unit}
use Rattle.cell_mosaic.proofs.laws.weights_make_the_unit.Goals as goal

pub returns : goal.returns
returns c = weights_make_the_unit
