use Rattle.std.specs.Prelude.{◌≡◌}
use Rattle.std.proofs.Common.{arith, sym, ◌∙◌}
use Rattle.terrain_base.proofs.KeyOrder.{same_parts}
use Rattle.terrain_base.proofs.cell_key.CellKey.is.Goals as goal

pub returns-clause-yes : goal.returns-clause-yes
returns-clause-yes c _ =
    let rank : c.rank.result ≡ c.rank-2.result = omega arith in
    same_parts c.args.self.now c.args.other.now (omega arith) (omega arith) (sym c.rank.ensures ∙ rank ∙ c.rank-2.ensures)
