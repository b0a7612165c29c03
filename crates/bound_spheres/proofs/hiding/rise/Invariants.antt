use Rattle.std.proofs.Common.{◌≡◌, ℕ, ◌<◌, ◌≤◌, false}
use Rattle.std.specs.List.{list_all}
use Rattle.bound_spheres.specs.Horizon.{hides_of}
use Rattle.bound_spheres.proofs.hiding.rise.Given as goal

abbrev pub invariant-loop-m : goal.invariant-loop-m
invariant-loop-m l = (k : ℕ) → l.fn.from ≤ k → k < l.m → list_all (λ p. hides_of l.c p k) l.corners ≡ false
