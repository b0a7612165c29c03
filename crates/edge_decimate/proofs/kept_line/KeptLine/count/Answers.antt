use Rattle.std.proofs.Common.{◌≡◌, ◌∙◌, ap, sym, rules, length}
use Rattle.std.specs.List.{count_by}
use Rattle.edge_decimate.proofs.Bits.{count_marked}
use Rattle.edge_decimate.proofs.kept_line.KeptLine.count.Goals as goal

pub returns : goal.returns
returns c =
    let e : c.count.result ≡ count_by (λ b. b) c.self.inside.bits = search rules in
    e ∙ sym (count_marked 0 c.self.inside.bits) ∙ ap length c.self.view_is
