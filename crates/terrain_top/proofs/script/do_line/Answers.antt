use Rattle.std.proofs.Common.{refl}
use Rattle.top_words.specs.Meant.{line_meant}
use Rattle.terrain_top.specs.Meant.{wanted_meant}
use Rattle.terrain_top.proofs.Lines.{read_stops, carry_stops, line_told, line_passed}
use Rattle.terrain_top.proofs.script.do_line.Goals as goal

pub returns-in_err-wanted-clause-goes : goal.returns-in_err-wanted-clause-goes
returns-in_err-wanted-clause-goes g c = λ s library h is.
    read_stops library c.args.number (line_meant c.args.line.now) s _ _ c.args.opened.now c.in_err-wanted.field-0.0 c.from_residual.result refl refl refl
    (λ passed. rw passed at c.in_err-wanted.ensures.passed) c.in_err-wanted.ensures.asks.only c.from_residual.ensures.1

pub returns-in_err-answer-in-Some-clause-goes : goal.returns-in_err-answer-in-Some-clause-goes
returns-in_err-answer-in-Some-clause-goes g c = λ s library h is.
    let want = c.in_ok-wanted.ensures.wanted library is in
    carry_stops library c.args.number (line_meant c.args.line.now) s _ _ c.carry_out.new.opened (wanted_meant c.in-Some.wanted) c.in_err-answer-in-Some.field-0.0 c.from_residual-in_err-answer-in-Some.result
    (rw c.in-Some.is at want) (c.in_err-answer-in-Some.ensures.goes s h) refl c.from_residual-in_err-answer-in-Some.ensures.1

pub returns-in_ok-answer-in-Some-clause-goes : goal.returns-in_ok-answer-in-Some-clause-goes
returns-in_ok-answer-in-Some-clause-goes g c = λ s library h is.
    let want = c.in_ok-wanted.ensures.wanted library is in
    line_told library c.args.number (line_meant c.args.line.now) s _ _ c.carry_out.new.opened (wanted_meant c.in-Some.wanted) c.in_ok-answer-in-Some.answer c.live.result c.tell_line.result
    (rw c.in-Some.is at want) (c.in_ok-answer-in-Some.ensures.goes s h) c.live.ensures c.tell_line.ensures.goes c.tell_line.ensures.only

pub returns-in-None-clause-goes : goal.returns-in-None-clause-goes
returns-in-None-clause-goes g c = λ s library h is.
    let want = c.in_ok-wanted.ensures.wanted library is in
    line_passed library c.args.number (line_meant c.args.line.now) s _ c.args.opened.now _ (rw c.in-None.is at want) h refl refl
