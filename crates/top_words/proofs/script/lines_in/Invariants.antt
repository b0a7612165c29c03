use Rattle.std.proofs.Common.{map, length}
use Rattle.top_words.specs.Meant.{line_meant}
use Rattle.top_words.proofs.Scripts.{LinesSoFar}
use Rattle.top_words.proofs.script.lines_in.Given as goal

abbrev pub invariant-loop-part : goal.invariant-loop-part
invariant-loop-part l = LinesSoFar l.text l.rest (map line_meant l.lines.items)

abbrev pub decreases-loop-part : goal.decreases-loop-part
decreases-loop-part l = length l.rest
