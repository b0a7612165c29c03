use Rattle.std.proofs.Common.{rules, ◌≢◌, ◌∙◌, ℕ, ◌<◌, List, ◌++◌, length, ap, sym}
use Rattle.std.specs.Str.{IsUtf8}
use Rattle.top_words.proofs.Scripts.{if_none, no_word, behind_word}
use Rattle.top_words.proofs.script.file_behind.Goals as goal

pub returns-in_err-file-clause-none : goal.returns-in_err-file-clause-none
returns-in_err-file-clause-none c =
    let none : (file : List ℕ) → 0 < length file → IsUtf8 file → c.args.line.now ≢ c.args.word.now ++ file =
    λ file some text same. no_word c.args.line.now c.args.word.now c.strip_prefix.result c.strip_prefix.ensures.cases c.in_err-file.was file same in
    if_none _ none

pub returns-in-Ok-clause-right : goal.returns-in-Ok-clause-right
returns-in-Ok-clause-right c =
    let behind = behind_word c.args.line.now c.args.word.now c.strip_prefix.result c.in_ok-file.file c.strip_prefix.ensures.cases c.in_ok-file.was in
    let same = c.in-Ok.ensures.cases.0 in
    let some : 0 < length c.in_ok-file.file.now = Prim.search rules in
    (behind ∙ ap (λ text. c.args.word.now ++ text) (sym same), rw same some, rw same c.in-Ok.ensures.cases.1)
