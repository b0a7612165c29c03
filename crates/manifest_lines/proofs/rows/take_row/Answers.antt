use Rattle.std.specs.Prelude.{◌≢◌, ℕ, List, ◌++◌, ◌∷◌, []}
use Rattle.std.proofs.Common.{sym, ap, ◌∙◌, subst}
use Rattle.manifest_lines.specs.Manifest.{Ascend, AreRowsOf}
use Rattle.manifest_lines.proofs.Ascending.{all-push, all-last}
use Rattle.manifest_lines.proofs.Readers.{if_none, true-not_false}
use Rattle.manifest_lines.proofs.rows.take_row.Goals as goal

pub returns-in_err-line-clause-none : goal.returns-in_err-line-clause-none
returns-in_err-line-clause-none g c =
    let none : (next : _) (rest : List ℕ) → AreRowsOf g.R.Row.grammar c.args.version (c.args.rows.now ++ next ∷ []) → c.args.bytes.now ≢ g.R.Row.grammar.text next ++ 10 ∷ rest = (λ next rest up e. absurd (c.in_err-line.ensures.first (g.R.Row.grammar.text next) rest (g.met.R.Row.sound.line next) e)) in
    if_none _ none

pub returns-in_err-row-clause-none : goal.returns-in_err-row-clause-none
returns-in_err-row-clause-none g c =
    let none : (next : _) (rest : List ℕ) → AreRowsOf g.R.Row.grammar c.args.version (c.args.rows.now ++ next ∷ []) → c.args.bytes.now ≢ g.R.Row.grammar.text next ++ 10 ∷ rest = (λ next rest up e.
    let first = c.in_ok-line.ensures.first (g.R.Row.grammar.text next) rest (g.met.R.Row.sound.line next) e in
    c.in_err-row.ensures.none next (all-last _ c.args.rows.now next up.1) first.0) in
    if_none _ none

pub returns-then-follows-clause-some : goal.returns-then-follows-clause-some
returns-then-follows-clause-some g c =
    c.in_ok-line.ensures.some ∙ ap (λ l. l ++ 10 ∷ c.in_ok-line.rest.now) c.in_ok-row.ensures.some.0

pub returns-then-follows-clause-next : goal.returns-then-follows-clause-next
returns-then-follows-clause-next g c =
    (c.follows.ensures.0 c.if-follows.true, all-push _ c.args.rows.now c.in_ok-row.row c.requires.1 c.in_ok-row.ensures.some.1)

pub returns-else-follows-clause-none : goal.returns-else-follows-clause-none
returns-else-follows-clause-none g c next rest up e =
    let first = c.in_ok-line.ensures.first (g.R.Row.grammar.text next) rest (g.met.R.Row.sound.line next) e in
    let same = g.met.R.Row.sound.apart next c.in_ok-row.row (sym first.0 ∙ c.in_ok-row.ensures.some.0) in
    absurd (true-not_false _ (c.follows.ensures.1 (subst (λ s. Ascend g.R.Row.grammar (c.args.rows.now ++ s ∷ [])) same up.0)) c.if-follows.false)
