use Rattle.std.proofs.Common.{◌≡◌, rules, FitsSigned, w16, arith}
use Rattle.std.proofs.lemmas.Int.{to_z-of_z}
use Rattle.top_words.proofs.number.read_params.Goals as goal

pub returns-clause-all : goal.returns-clause-all
returns-clause-all c = λ wanted is.
    let caps = c.in_ok-cap.ensures.all wanted.cap (omega (arith, wanted.cap_in_range)) is.cap in
    let fills = c.in_ok-fill.ensures.all wanted.fill (record { above = wanted.fill_above; below = wanted.fill_below }) is.fill in
    let same_cap : c.in_ok-cap.cap ≡ wanted.cap = cc in
    let same_fill : c.in_ok-fill.fill ≡ wanted.fill = cc in
    let fits : FitsSigned w16 c.in_ok-fill.fill = Prim.search rules in
    (simp to_z-of_z at c.params_of.ensures.all) wanted same_cap same_fill
