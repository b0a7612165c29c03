use Rattle.std.proofs.Common.{◌≡◌, true, take}
use Rattle.std.specs.List.{list_all}
use Rattle.bound_spheres.specs.Horizon.{hides_of}
use Rattle.bound_spheres.proofs.hiding.hides_all.Given as goal

abbrev pub invariant-loop-next : goal.invariant-loop-next
invariant-loop-next l = list_all (λ p. hides_of l.c p l.m) (take l.next-index l.corners) ≡ true
