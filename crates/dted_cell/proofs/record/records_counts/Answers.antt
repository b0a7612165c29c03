use Rattle.std.proofs.Common.{sym, ◌∙◌, arith}
use Rattle.common_laws.proofs.First.{flat_found}
use Rattle.dted_cell.specs.Refusal.{record_conditions}
use Rattle.dted_cell.proofs.record.records_counts.Goals as goal

pub returns-in-Err-clause-refusal : goal.returns-in-Err-clause-refusal
returns-in-Err-clause-refusal c =
    sym (flat_found (record_conditions c.args.text.now c.args.rows) c.loop-col.col c.args.columns c.in-Err.refusal (omega arith) (sym c.in-Err.ensures.refusal)) ∙ c.loop-col.invariant.later
