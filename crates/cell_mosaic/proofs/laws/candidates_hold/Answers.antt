use Rattle.cell_mosaic.proofs.Holders.{are_holders}
use Rattle.cell_mosaic.proofs.laws.candidates_hold.Goals as goal

pub returns : goal.returns
returns c = are_holders
