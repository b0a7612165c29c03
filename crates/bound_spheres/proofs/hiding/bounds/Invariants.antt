use Rattle.std.proofs.Common.{take}
use Rattle.bound_spheres.specs.Horizon.{Bounds}
use Rattle.bound_spheres.proofs.hiding.bounds.Given as goal

abbrev pub invariant-loop-next : goal.invariant-loop-next
invariant-loop-next l = Bounds l.c (take l.next-index l.corners) l.square l.product
