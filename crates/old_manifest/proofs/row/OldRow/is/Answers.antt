use Rattle.std.specs.Prelude.{◌≡◌}
use Rattle.std.proofs.Common.{arith, sym, ◌∙◌}
use Rattle.old_manifest.proofs.OldKeys.{same_old}
use Rattle.old_manifest.proofs.row.OldRow.is.Goals as goal

pub returns-clause-yes : goal.returns-clause-yes
returns-clause-yes c _ =
    let rank : c.rank.result ≡ c.rank-2.result = omega arith in
    same_old c.args.self.now c.args.other.now (omega arith) (omega arith) (sym c.rank.ensures ∙ rank ∙ c.rank-2.ensures)
