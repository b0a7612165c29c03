use Rattle.std.specs.Prelude.{◌≡◌, ◌++◌, ◌∷◌, codes}
use Rattle.std.specs.Fmt.{signed_decimal}
use Rattle.std.proofs.Common.{arith, ap, sym, ◌∙◌, subst}
use Rattle.std.proofs.lemmas.Int.{to_z-of_z}
use Rattle.std.proofs.lemmas.List.{append_cancel_left}
use Rattle.std.proofs.lemmas.Fmt.{signed_decimal_injective}
use Rattle.terrain_base.specs.Height.{IsHeight}
use Rattle.manifest_lines.proofs.Lines.{small_height}
use Rattle.std.specs.Prelude.{FitsSigned}
use Rattle.std.specs.Int.{w16}
use Rattle.std.proofs.Common.{rules}
use Rattle.manifest_lines.proofs.Readers.{true-not_false, if_none, NoFill, line-height, behind_word}
use Rattle.manifest_lines.proofs.line.take_fill.Goals as goal

pub returns-in_err-line-clause-none : goal.returns-in_err-line-clause-none
returns-in_err-line-clause-none c =
    let none : NoFill c.args.bytes.now = λ z rest is e. absurd (c.in_err-line.ensures.first (codes "fill " ++ signed_decimal z) rest (line-height z is) e) in
    if_none _ none

pub returns-in_err-fill-clause-none : goal.returns-in_err-fill-clause-none
returns-in_err-fill-clause-none c =
    let none : NoFill c.args.bytes.now = λ z rest is e.
    let first = c.in_ok-line.ensures.first (codes "fill " ++ signed_decimal z) rest (line-height z is) e in
    let behind = behind_word c.in_ok-line.line.now (codes "fill ") c.strip_prefix.result c.in_ok-strip_prefix.field-0 c.strip_prefix.ensures.cases c.in_ok-strip_prefix.was in
    c.in_err-fill.ensures.none z is (append_cancel_left (codes "fill ") _ _ (sym behind ∙ first.0)) in
    if_none _ none

pub returns-then-is_height-clause-some : goal.returns-then-is_height-clause-some
returns-then-is_height-clause-some c =
    let behind = behind_word c.in_ok-line.line.now (codes "fill ") c.strip_prefix.result c.in_ok-strip_prefix.field-0 c.strip_prefix.ensures.cases c.in_ok-strip_prefix.was in
    let fits : FitsSigned w16 c.in_ok-fill.fill = search rules in
    (c.is_height.ensures.0 c.if-is_height.true, c.in_ok-line.ensures.some ∙ ap (λ line. line ++ 10 ∷ c.in_ok-line.rest.now) (behind ∙ ap (λ text. codes "fill " ++ text) (c.in_ok-fill.ensures.some ∙ ap signed_decimal (sym (to_z-of_z w16 c.in_ok-fill.fill fits)))))

pub returns-else-is_height-clause-none : goal.returns-else-is_height-clause-none
returns-else-is_height-clause-none c z rest is e =
    let first = c.in_ok-line.ensures.first (codes "fill " ++ signed_decimal z) rest (line-height z is) e in
    let behind = behind_word c.in_ok-line.line.now (codes "fill ") c.strip_prefix.result c.in_ok-strip_prefix.field-0 c.strip_prefix.ensures.cases c.in_ok-strip_prefix.was in
    let fits : FitsSigned w16 c.in_ok-fill.fill = search rules in
    let same : c.in_ok-fill.fill ≡ z = signed_decimal_injective c.in_ok-fill.fill z (omega (arith, fits.sfits)) (small_height z is.above is.below) (sym c.in_ok-fill.ensures.some ∙ append_cancel_left (codes "fill ") _ _ (sym behind ∙ first.0)) in
    absurd (true-not_false _ (c.is_height.ensures.1 (subst IsHeight (sym (to_z-of_z w16 c.in_ok-fill.fill fits ∙ same)) is)) c.if-is_height.false)
