use Rattle.cell_mosaic.proofs.WholeMaps.{none_good}
use Rattle.cell_mosaic.proofs.whole.WholeCells.new.Goals as goal

pub invariant_of-result : goal.invariant_of-result
invariant_of-result c = record { good = none_good c.new.result.entries c.new.ensures.empty }
