use Rattle.dted_cell.proofs.Lanes.{select_greater}
use Rattle.dted_cell.proofs.elevations.greater.Goals as goal

pub returns : goal.returns
returns c = select_greater c.args.a c.args.b
