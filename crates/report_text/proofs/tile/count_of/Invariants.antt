use Rattle.std.proofs.Common.{◌≡◌, ◌+◌, length}
use Rattle.report_text.proofs.tile.count_of.Given as goal

abbrev pub invariant-loop-extension : goal.invariant-loop-extension
invariant-loop-extension l = l.count + length l._extension-iterator ≡ length l.fn.extensions
