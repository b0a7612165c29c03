use Rattle.std.specs.Prelude.{◌++◌, ◌∷◌, codes}
use Rattle.std.proofs.Common.{sym, ap, ◌∙◌}
use Rattle.std.proofs.lemmas.List.{append_cancel_left}
use Rattle.manifest_lines.specs.Manifest.{state_word, state_line}
use Rattle.manifest_lines.proofs.Lines.{line-state}
use Rattle.manifest_lines.proofs.Readers.{NoState, if_none, no_word, behind_word}
use Rattle.manifest_lines.proofs.head.take_state.Goals as goal

pub returns-in_err-line-clause-none : goal.returns-in_err-line-clause-none
returns-in_err-line-clause-none g c =
    let none : NoState g.R.Row.grammar c.args.version c.args.bytes.now = λ s rest is e.
    absurd (c.in_err-line.ensures.first (state_line g.R.Row.grammar s) rest (line-state g.R.Row.grammar g.met.R.Row.sound s) e) in
    if_none _ none

pub returns-in_err-strip_prefix-clause-none : goal.returns-in_err-strip_prefix-clause-none
returns-in_err-strip_prefix-clause-none g c =
    let none : NoState g.R.Row.grammar c.args.version c.args.bytes.now = λ s rest is e.
    let first = c.in_ok-line.ensures.first (state_line g.R.Row.grammar s) rest (line-state g.R.Row.grammar g.met.R.Row.sound s) e in
    no_word c.in_ok-line.line.now (codes "state ") c.strip_prefix.result c.strip_prefix.ensures.cases c.in_err-strip_prefix.was (state_word g.R.Row.grammar s) first.0 in
    if_none _ none

pub returns-in_err-state-clause-none : goal.returns-in_err-state-clause-none
returns-in_err-state-clause-none g c =
    let none : NoState g.R.Row.grammar c.args.version c.args.bytes.now = λ s rest is e.
    let first = c.in_ok-line.ensures.first (state_line g.R.Row.grammar s) rest (line-state g.R.Row.grammar g.met.R.Row.sound s) e in
    let behind = behind_word c.in_ok-line.line.now (codes "state ") c.strip_prefix.result c.in_ok-strip_prefix.field-0 c.strip_prefix.ensures.cases c.in_ok-strip_prefix.was in
    c.in_err-state.ensures.none s is (append_cancel_left (codes "state ") _ _ (sym behind ∙ first.0)) in
    if_none _ none

pub returns-clause-some : goal.returns-clause-some
returns-clause-some g c =
    let behind = behind_word c.in_ok-line.line.now (codes "state ") c.strip_prefix.result c.in_ok-strip_prefix.field-0 c.strip_prefix.ensures.cases c.in_ok-strip_prefix.was in
    (c.in_ok-state.ensures.some.1, c.in_ok-line.ensures.some ∙ ap (λ line. line ++ 10 ∷ c.in_ok-line.rest.now) (behind ∙ ap (λ text. codes "state " ++ text) c.in_ok-state.ensures.some.0))
