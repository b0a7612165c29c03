use Rattle.std.proofs.Common.{sym, subst, ◌∙◌, ◌++◌, not, is_some}
use Rattle.std.proofs.lemmas.Bool.{not-true}
use Rattle.database.specs.State.{file_of}
use Rattle.database.specs.Verdict.{difference_at, IsLeast}
use Rattle.database.proofs.Verdicts.{keeps_one, keeps_none, extra_at}
use Rattle.db_check.proofs.extra.keep_extra.Goals as goal

pub returns-then-is_unwanted : goal.returns-then-is_unwanted
returns-then-is_unwanted c = λ files s names p r held least.
    let unwanted = sym (c.is_unwanted.ensures s p r) ∙ c.if-is_unwanted.true in
    subst (λ more. IsLeast (difference_at s files) (names ++ more) c.keep.result)
    (sym (keeps_one (λ name. not (is_some (file_of s name))) c.args.name.now unwanted))
    (c.keep.ensures (difference_at s files) names least (extra_at s files c.args.name.now held (not-true _ unwanted)))

pub returns-else-is_unwanted : goal.returns-else-is_unwanted
returns-else-is_unwanted c = λ files s names p r held least.
    let wanted = sym (c.is_unwanted.ensures s p r) ∙ c.if-is_unwanted.false in
    subst (λ all. IsLeast (difference_at s files) all c.args.best)
    (sym (keeps_none (λ name. not (is_some (file_of s name))) names c.args.name.now wanted)) least
