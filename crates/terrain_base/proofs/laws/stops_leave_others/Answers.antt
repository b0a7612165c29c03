use Rattle.terrain_base.proofs.StoreMeanings.{stops_leave_others}
use Rattle.terrain_base.proofs.laws.stops_leave_others.Goals as goal

pub returns : goal.returns
returns c = stops_leave_others
