use Rattle.std.proofs.Common.{refl, ◌∙◌, arith, map, take}
use Rattle.top_words.specs.Meant.{line_meant}
use Rattle.top_reply.specs.Lines.{commands_of, after_lines}
use Rattle.terrain_top.proofs.Lines.{line_more, line_stops, lines_all}
use Rattle.terrain_top.proofs.script.do_lines.Goals as goal

pub returns-in_err-tally-clause-goes : goal.returns-in_err-tally-clause-goes
returns-in_err-tally-clause-goes g c = λ s library h is.
    let so_far = c.loop-i.invariant.0 s library h is in
    let now = after_lines library (commands_of 1 (map line_meant (take c.loop-i.i c.args.lines.now))) s in
    line_stops line_meant library c.args.lines.now c.loop-i.i c.index-lines-i.result c.loop-i-test.true c.index-lines-i.is s _ _ _ _ c.do_line.new.opened _ c.in_err-tally.field-0.0 c.from_residual.result so_far
    (c.in_err-tally.ensures.goes now library so_far.holds (c.loop-i.invariant.1 ∙ is)) c.from_residual.ensures.1

pub returns-in-Ended-clause-goes : goal.returns-in-Ended-clause-goes
returns-in-Ended-clause-goes g c = λ s library h is.
    let so_far = c.loop-i.invariant.0 s library h is in
    let now = after_lines library (commands_of 1 (map line_meant (take c.loop-i.i c.args.lines.now))) s in
    let line = c.in_ok-tally.ensures.goes now library so_far.holds (c.loop-i.invariant.1 ∙ is) in
    absurd (rw c.in-Ended.is at line)

pub loop-i-preserved : goal.loop-i-preserved
loop-i-preserved g c = (
  λ s library h is.
      let so_far = c.loop-i.invariant.0 s library h is in
      let now = after_lines library (commands_of 1 (map line_meant (take c.loop-i.i c.args.lines.now))) s in
      let line = c.in_ok-tally.ensures.goes now library so_far.holds (c.loop-i.invariant.1 ∙ is) in
      line_more line_meant library c.args.lines.now c.loop-i.i c.index-lines-i.result c.loop-i-test.true c.index-lines-i.is s _ _ _ _ _ _ c.in-All.tally _ refl refl so_far
      (rw c.in-All.is at line),
  c.do_line.ensures.same ∙ c.loop-i.invariant.1,
  rw c.in-All.is at c.in_ok-tally.ensures.live,
  omega (arith, c.loop-i.invariant.3, c.do_line.ensures.library.later),
  omega (arith, c.loop-i.invariant.4, c.do_line.ensures.store.later),
  omega (arith, c.loop-i.invariant.5, c.do_line.ensures.sink.later),
  omega (arith, c.loop-i.invariant.6, c.do_line.ensures.more),
  let few = rw c.in-All.is at c.in_ok-tally.ensures.few in omega (arith, c.loop-i.invariant.7, few),
)

pub returns-clause-goes : goal.returns-clause-goes
returns-clause-goes g c = λ s library h is.
    lines_all line_meant library c.args.lines.now c.loop-i.i (omega (arith, c.loop-i-test.false)) s _ _ _ _ (c.loop-i.invariant.0 s library h is)
