use Rattle.std.proofs.Common.{take}
use Rattle.std.specs.Prelude.{flat_map}
use Rattle.bound_spheres.specs.Horizon.{scaled_corners}
use Rattle.bound_spheres.proofs.Rising.{IsRisen}
use Rattle.bound_spheres.proofs.hiding.horizon.Given as goal

abbrev pub invariant-loop-next : goal.invariant-loop-next
invariant-loop-next l = IsRisen l.centre (flat_map scaled_corners (take l.next-index l.boxes)) l.m
