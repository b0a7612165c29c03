use Rattle.std.proofs.Common.{sym, ◌∙◌}
use Rattle.hgt_cells.proofs.Refusals.{accepted}
use Rattle.hgt_cells.proofs.view.HgtView.read.Goals as goal

pub invariant_of-result : goal.invariant_of-result
invariant_of-result c = record { file = accepted c.args.bytes.now (sym c.refusal.ensures ∙ c.in-None.is) }
