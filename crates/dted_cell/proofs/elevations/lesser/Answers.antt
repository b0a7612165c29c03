use Rattle.dted_cell.proofs.Lanes.{select_lesser}
use Rattle.dted_cell.proofs.elevations.lesser.Goals as goal

pub returns : goal.returns
returns c = select_lesser c.args.a c.args.b
