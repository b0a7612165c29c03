-- The line is not below the surface at any break so far.
use Rattle.std.proofs.Common.{take}
use Rattle.std.specs.List.{AllByRecursion}
use Rattle.sight_line.proofs.Blocks.{Dips}
use Rattle.sight_line.proofs.blocked.sight.Given as goal

abbrev pub invariant-loop-bend : goal.invariant-loop-bend
invariant-loop-bend l =
    AllByRecursion (λ c. ¬ Dips l.fn.from.metres l.fn.to.metres c) (take l.bend-index l.bend-items)
