use Rattle.std.proofs.Common.{sym, ap, ◌∙◌}
use Rattle.db_old_reading.specs.Kept.{is_staged}
use Rattle.db_old_reading.proofs.KeptNames.{row_test}
use Rattle.db_old_reading.proofs.row.is_staged.Goals as goal

pub returns-in-Some : goal.returns-in-Some
returns-in-Some c = row_test c.in-Some.put c.args.row.now c.is.result c.is.ensures.yes c.is.ensures.no ∙ ap (λ staged. is_staged staged c.args.row.now) (sym c.in-Some.is)
