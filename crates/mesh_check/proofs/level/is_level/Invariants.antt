-- The walk so far.
use Rattle.std.proofs.Common.{◌+◌, ◌-◌, length}
use Rattle.mesh_check.specs.Level.{IsWitness}
use Rattle.mesh_check.proofs.LevelSteps.{Met}
use Rattle.mesh_check.proofs.level.is_level.Given as goal

abbrev pub invariant-loop-at : goal.invariant-loop-at
invariant-loop-at l = Met l.v (λ g. IsWitness l.v l.lower l.upper g) l.lower l.upper l.at.lower l.at.upper

abbrev pub decreases-loop-at : goal.decreases-loop-at
decreases-loop-at l = (length l.lower + length l.upper) - (l.at.lower + l.at.upper)
