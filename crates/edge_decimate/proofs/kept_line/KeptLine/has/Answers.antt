use Rattle.std.proofs.Common.{◌≡◌, arith, subst, ℕ, List, false, get_or, nat_le}
use Rattle.std.specs.Prelude.{◌↔◌, IsTrue, Contains}
use Rattle.std.proofs.lemmas.List.{get_or_past}
use Rattle.std.proofs.lemmas.Bool.Decides.{nat_tests}
use Rattle.edge_decimate.proofs.Bits.{is_marked}
use Rattle.edge_decimate.proofs.kept_line.KeptLine.has.Goals as goal

pub returns-then-i-le66 : goal.returns-then-i-le66
returns-then-i-le66 c =
    subst (λ (ks : List ℕ). IsTrue (get_or c.self.inside.bits c.args.i false) ↔ Contains ks c.args.i)
    c.self.view_is
    (is_marked c.args.i c.self.inside.bits)

pub returns-else-i-le66 : goal.returns-else-i-le66
returns-else-i-le66 c =
    let past : get_or c.self.inside.bits c.args.i false ≡ false =
    get_or_past c.self.inside.bits c.args.i false (omega (arith, c.self.told)) in
    let outside : nat_le c.args.i 66 ≡ false = grind (arith, nat_tests) in
    subst (λ (ks : List ℕ). IsTrue (nat_le c.args.i 66) ↔ Contains ks c.args.i) c.self.view_is (
      λ e. absurd (cc (e, outside)),
      λ h. let z = (is_marked c.args.i c.self.inside.bits).1 h in absurd (cc (z, past)),
    )
