use Rattle.dted_cell.proofs.Lanes.{keys_are}
use Rattle.dted_cell.proofs.elevations.keys_of.Goals as goal

pub returns : goal.returns
returns c = keys_are c.args.words c.fits-words.0 c.fits-words.1
