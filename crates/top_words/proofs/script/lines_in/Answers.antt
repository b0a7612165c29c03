use Rattle.std.proofs.Common.{sym, subst}
use Rattle.top_words.specs.Meant.{line_meant}
use Rattle.top_words.specs.Script.{IsLine}
use Rattle.top_words.proofs.Scripts.{LinesSoFar, one_more, all_lines, meant_more}
use Rattle.top_words.proofs.script.lines_in.Goals as goal

pub loop-part-preserved : goal.loop-part-preserved
loop-part-preserved c =
    let more = meant_more c.loop-part.lines.items c.line_in.result c.push.new.self.items c.in_ok-push.ensures.items in
    let is = subst (λ text. IsLine text (line_meant c.line_in.result)) c.without_return.ensures c.line_in.ensures in
    subst (LinesSoFar c.args.text.now c.in-Some.after.now) (sym more)
    (one_more c.args.text.now c.loop-part.rest.now c.in-Some.part.now c.in-Some.after.now _ _ c.loop-part.invariant c.in-Some.ensures.some c.in-Some.ensures.first is)

pub returns : goal.returns
returns c =
    let more = meant_more c.loop-part.lines.items c.line_in-2.result c.push-2.new.self.items c.in_ok-push-2.ensures.items in
    let is = subst (λ text. IsLine text (line_meant c.line_in-2.result)) c.without_return-2.ensures c.line_in-2.ensures in
    rw more (all_lines c.args.text.now c.loop-part.rest.now _ _ c.loop-part.invariant c.in_default.ensures.none is)
