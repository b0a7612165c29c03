use Rattle.std.proofs.Common.{◌≡◌, take}
use Rattle.dted_cell.specs.Words.{greatest_of}
use Rattle.dted_cell.proofs.elevations.greatest_lane.Given as goal

abbrev pub invariant-loop-lane : goal.invariant-loop-lane
invariant-loop-lane l = l.greatest ≡ greatest_of (take l.lane-index l.lane-items)
