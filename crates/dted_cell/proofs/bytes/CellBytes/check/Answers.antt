use Rattle.std.proofs.Common.{refl, sym, ap, ◌∙◌}
use Rattle.dted_cell.specs.Refusal.{refusal_of}
use Rattle.dted_cell.proofs.WholeCells.{some_cell, no_cell}
use Rattle.dted_cell.proofs.bytes.CellBytes.check.Goals as goal

pub returns-in-Ok-clause-ok : goal.returns-in-Ok-clause-ok
returns-in-Ok-clause-ok c = (λ ok. some_cell c.args.bytes.items (sym (c.in-Ok.ensures.refusal ∙ ap refusal_of c.deref.ensures.value)), λ cell. refl)

pub returns-in-Err-clause-ok : goal.returns-in-Err-clause-ok
returns-in-Err-clause-ok c =
    (λ ok. cc, λ cell. absurd (no_cell c.args.bytes.items c.in-Err.refusal (sym (c.in-Err.ensures.refusal ∙ ap refusal_of c.deref.ensures.value)) cell))
