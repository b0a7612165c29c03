use Rattle.std.proofs.Common.{◌≡◌, take}
use Rattle.bound_spheres.specs.Reach.{farthest_of}
use Rattle.bound_spheres.proofs.distance.farthest.Given as goal

abbrev pub invariant-loop-next : goal.invariant-loop-next
invariant-loop-next l = l.far ≡ farthest_of l.x l.y l.z (take l.next-index l.boxes)
