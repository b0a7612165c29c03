use Rattle.std.proofs.Common.{refl, sym, ◌∙◌}
use Rattle.dted_cell.proofs.RecordLaws.{record_by, by_record}
use Rattle.dted_cell.proofs.record.record_counts.Goals as goal

pub returns-in-Some-clause-refusal : goal.returns-in-Some-clause-refusal
returns-in-Some-clause-refusal c = sym (by_record c.args.text.now c.args.rows c.args.col (c.in-Some.ensures.good.0 refl))

pub unreachable-requires : goal.unreachable-requires
unreachable-requires c =
    let none = c.in_default-record_refusal.is in
    let good = record_by c.args.text.now c.args.rows c.args.col (sym c.record_refusal.ensures ∙ none) in
    let differs = c.in_default.ensures.good.1 good in
    cc
