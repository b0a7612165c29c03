use Rattle.std.proofs.Common.{sym, subst, ◌∙◌, not, is_some, arith}
use Rattle.std.proofs.lemmas.List.{take_all}
use Rattle.std.specs.List.{filter}
use Rattle.database.specs.State.{file_of}
use Rattle.database.specs.Verdict.{difference_at, IsLeast}
use Rattle.database.proofs.Verdicts.{more_of, held_of}
use Rattle.db_check.proofs.extra.least_extra.Goals as goal

pub loop-name-preserved : goal.loop-name-preserved
loop-name-preserved c = λ files s p r all.
    subst (λ names. IsLeast (difference_at s files) names c.keep_extra-best.result)
    (sym (more_of (λ name. not (is_some (file_of s name))) c.args.names.now c.loop-name.name-index c.name-item.result
    c.loop-name-test.true c.name-item.is))
    (c.keep_extra-best.ensures files s _ p r
    (held_of files c.args.names.now c.loop-name.name-index c.name-item.result all c.loop-name-test.true
    c.name-item.is) (c.loop-name.invariant files s p r all))

pub returns : goal.returns
returns c = λ files s p r all.
    subst (λ names. IsLeast (difference_at s files)
    (filter (λ name. not (is_some (file_of s name))) names) c.loop-name.best)
    (take_all c.loop-name.name-index c.args.names.now (omega arith) ∙ all) (c.loop-name.invariant files s p r all)
