use Rattle.std.specs.Prelude.{◌≡◌, ◌++◌, drop}
use Rattle.availability.proofs.Merges.{merged_from}
use Rattle.availability.proofs.merge.merged.Given as goal

-- what is done, and what is left, are the whole
abbrev pub invariant-loop-next : goal.invariant-loop-next
invariant-loop-next l = l.done.items ++ merged_from l.run (drop l.next-index l.rest) ≡ merged_from l.initial.run l.rest
