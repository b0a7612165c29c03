use Rattle.std.specs.Prelude.{refl}
use Rattle.std.proofs.Common.{sym}
use Rattle.manifest_lines.proofs.Ascending.{one_ascends, follows_is}
use Rattle.manifest_lines.proofs.rows.follows.Goals as goal

pub returns-in-None : goal.returns-in-None
returns-in-None g c = ((λ yes. one_ascends g.R.Row.grammar c.args.rows.now c.args.row.now (sym c.in-None.ensures.value)), (λ q. refl))

pub returns-in-Some : goal.returns-in-Some
returns-in-Some g c = follows_is g.R.Row.grammar g.met.R.Row.sound c.args.rows.now c.in-Some.last.now c.args.row.now c.precedes.result c.requires (sym c.in-Some.ensures.value) c.precedes.ensures
