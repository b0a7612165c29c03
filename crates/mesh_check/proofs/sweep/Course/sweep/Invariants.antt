-- What is seen up to the slab.
use Rattle.std.proofs.Common.{◌-◌, slice_index_or}
use Rattle.mesh_check.specs.Sweep.{IsSweptTo}
use Rattle.mesh_check.proofs.sweep.Course.sweep.Given as goal

abbrev pub invariant-loop-place : goal.invariant-loop-place
invariant-loop-place l = IsSweptTo l.self l.active l.below l.seen (slice_index_or l.self.levels.items (l.place - 1) 0)
