use Rattle.std.proofs.Common.{◌≡◌, take}
use Rattle.std.specs.Prelude.{fold}
use Rattle.bound_spheres.specs.Hull.{join_of}
use Rattle.bound_spheres.proofs.extent.hull.Given as goal

abbrev pub invariant-loop-next : goal.invariant-loop-next
invariant-loop-next l = l.hull ≡ fold join_of l.initial.hull (take l.next-index l.boxes)
