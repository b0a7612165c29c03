use Rattle.dted_cell.proofs.Lanes.{low_keys_are}
use Rattle.dted_cell.proofs.elevations.low_keys_of.Goals as goal

pub returns : goal.returns
returns c = low_keys_are c.args.words c.keys_of.result c.fits-words.0 c.keys_of.ensures
