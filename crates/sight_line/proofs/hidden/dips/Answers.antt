-- The numbers of the crossing are those that are compared.
use Rattle.std.proofs.Common.{rules, arith, FitsSigned, ◌≡◌}
use Rattle.std.specs.Int.{w128}
use Rattle.std.proofs.lemmas.Int.{ints, to_z-of_z}
use Rattle.sight_line.proofs.hidden.dips.Goals as goal

pub returns : goal.returns
returns c =
    let x = c.args.crossing.now in
    let over : c.from.result ≡ x.over = search rules in
    let under : c.from-under.result ≡ x.under = search rules in
    let height : c.from-2.result ≡ x.height = search rules in
    let wide_over : FitsSigned w128 x.over = omega (arith, ints, c.requires.on_way) in
    let wide_under : FitsSigned w128 x.under = omega (arith, ints, c.requires.on_way) in
    let wide_height : FitsSigned w128 x.height = omega (arith, ints, c.requires.height) in
    simp to_z-of_z at (rw (over, under, height) at c.is_under.ensures)
