use Rattle.std.specs.Prelude.{◌++◌, ◌∷◌, decimal}
use Rattle.std.proofs.Common.{arith, ap, sym, ◌∙◌}
use Rattle.std.proofs.lemmas.List.{append_cancel_left}
use Rattle.std.proofs.lemmas.Fmt.{decimal_injective}
use Rattle.manifest_lines.proofs.Readers.{if_none, NoNumber, line-number, no_word, behind_word}
use Rattle.manifest_lines.proofs.line.take_number.Goals as goal

pub returns-in_err-line-clause-none : goal.returns-in_err-line-clause-none
returns-in_err-line-clause-none c =
    let none : NoNumber c.args.most c.args.word.now c.args.bytes.now = λ n rest few e. absurd (c.in_err-line.ensures.first (c.args.word.now ++ decimal n) rest (line-number c.args.word.now n c.requires (omega arith)) e) in
    if_none _ none

pub returns-in_err-strip_prefix-clause-none : goal.returns-in_err-strip_prefix-clause-none
returns-in_err-strip_prefix-clause-none c =
    let none : NoNumber c.args.most c.args.word.now c.args.bytes.now = λ n rest few e.
    let first = c.in_ok-line.ensures.first (c.args.word.now ++ decimal n) rest (line-number c.args.word.now n c.requires (omega arith)) e in
    no_word c.in_ok-line.line.now c.args.word.now c.strip_prefix.result c.strip_prefix.ensures.cases c.in_err-strip_prefix.was (decimal n) first.0 in
    if_none _ none

pub returns-in_err-number-clause-none : goal.returns-in_err-number-clause-none
returns-in_err-number-clause-none c =
    let none : NoNumber c.args.most c.args.word.now c.args.bytes.now = λ n rest few e.
    let first = c.in_ok-line.ensures.first (c.args.word.now ++ decimal n) rest (line-number c.args.word.now n c.requires (omega arith)) e in
    let behind = behind_word c.in_ok-line.line.now c.args.word.now c.strip_prefix.result c.in_ok-strip_prefix.field-0 c.strip_prefix.ensures.cases c.in_ok-strip_prefix.was in
    c.in_err-number.ensures.none n (omega arith) (append_cancel_left c.args.word.now _ _ (sym behind ∙ first.0)) in
    if_none _ none

pub returns-then-number-most-clause-some : goal.returns-then-number-most-clause-some
returns-then-number-most-clause-some c =
    let behind = behind_word c.in_ok-line.line.now c.args.word.now c.strip_prefix.result c.in_ok-strip_prefix.field-0 c.strip_prefix.ensures.cases c.in_ok-strip_prefix.was in
    (omega arith, c.in_ok-line.ensures.some ∙ ap (λ line. line ++ 10 ∷ c.in_ok-line.rest.now) (behind ∙ ap (λ text. c.args.word.now ++ text) c.in_ok-number.ensures.some))

pub returns-else-number-most-clause-none : goal.returns-else-number-most-clause-none
returns-else-number-most-clause-none c n rest few e =
    let first = c.in_ok-line.ensures.first (c.args.word.now ++ decimal n) rest (line-number c.args.word.now n c.requires (omega arith)) e in
    let behind = behind_word c.in_ok-line.line.now c.args.word.now c.strip_prefix.result c.in_ok-strip_prefix.field-0 c.strip_prefix.ensures.cases c.in_ok-strip_prefix.was in
    let same = decimal_injective c.in_ok-number.number n (omega arith) (omega arith) (sym c.in_ok-number.ensures.some ∙ append_cancel_left c.args.word.now _ _ (sym behind ∙ first.0)) in
    absurd (omega arith)
