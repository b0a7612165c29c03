use Rattle.std.proofs.Common.{◌≡◌, take}
use Rattle.dted_cell.specs.Words.{least_of}
use Rattle.dted_cell.proofs.elevations.least_lane.Given as goal

abbrev pub invariant-loop-lane : goal.invariant-loop-lane
invariant-loop-lane l = l.least ≡ least_of (take l.lane-index l.lane-items)
