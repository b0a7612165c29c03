use Rattle.std.proofs.Common.{◌∙◌, ap, option_map, ◌++◌}
use Rattle.terrain_top.proofs.Coming.{passed_on, printed, not_printed}
use Rattle.terrain_top.proofs.top.run_command.Goals as goal

pub returns-in_err-answer-clause-passes : goal.returns-in_err-answer-clause-passes
returns-in_err-answer-clause-passes g c = λ course is.
    passed_on course _ _ c.in_err-answer.field-0.0 c.from_residual.result c.from_residual.ensures.1 (c.in_err-answer.ensures.comes course is)

pub returns-in_err-print-clause-passes : goal.returns-in_err-print-clause-passes
returns-in_err-print-clause-passes g c = λ course is.
    not_printed course _ _ c.in_ok-answer.answer _ c.in_err-print.field-0.0 c.from_residual-in_err-print.result (c.in_ok-answer.ensures.comes course is) c.in_err-print.ensures.only
    (rw c.deref.ensures.value at c.in_err-print.ensures.front) c.from_residual-in_err-print.ensures.1

pub returns-clause-passes : goal.returns-clause-passes
returns-clause-passes g c = λ course is.
    printed course _ _ c.in_ok-answer.answer _ (c.in_ok-answer.ensures.comes course is)
    (c.in_ok-print.ensures.all ∙ ap (λ text. option_map (λ taken. taken ++ text) (g.Si.Sink.taken c.answer_to.new.out)) c.deref.ensures.value)
