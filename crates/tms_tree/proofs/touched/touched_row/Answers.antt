use Rattle.std.proofs.Common.{arith}
use Rattle.std.proofs.lemmas.Nat.{one_shl}
use Rattle.tms_tree.proofs.Rows.{touched_is}
use Rattle.tms_tree.proofs.touched.touched_row.Goals as goal

pub returns-clause-exact : goal.returns-clause-exact
returns-clause-exact c = λ tile level. touched_is tile c.args.square _ c.args.z _ level (one_shl c.args.z 32 (omega (arith, c.requires))) c.run_of-rows.ensures.exact c.columns_of-east.ensures.exact
