use Rattle.std.proofs.Common.{subst, sym, ◌∙◌, arith, FitsSigned, w16}
use Rattle.std.proofs.lemmas.Int.{to_z-of_z}
use Rattle.dted_cell.specs.Elevation.{IsPost}
use Rattle.cell_mosaic.proofs.Sums.{height_fits}
use Rattle.cell_mosaic.proofs.Keeping.{told_next}
use Rattle.resample.proofs.Firsts.{height_found, height_filled}
use Rattle.resample.proofs.Places.{candidate_holds}
use Rattle.resample.proofs.height_rule.height.Goals as goal

pub value_or_void-requires-clause-holds : goal.value_or_void-requires-clause-holds
value_or_void-requires-clause-holds g c =
    candidate_holds c.args.place c.candidates-squares.result c.loop-k.k c.at.result c.requires.place c.candidates-squares.ensures.value (omega arith) c.at.ensures

pub returns-in-Metres-clause-value : goal.returns-in-Metres-clause-value
returns-in-Metres-clause-value g c told is =
    let told_here = told_next c.loop-k.invariant.0 told is in
    let value = sym (c.in_ok-metres.ensures.value told told_here) ∙ c.in-Metres.is in
    let r = c.ranges.fill in
    let rest = simp to_z-of_z at c.loop-k.invariant.1 told is in
    let f : FitsSigned w16 c.in-Metres.metres = height_fits _ (subst IsPost c.in-Metres.is c.in_ok-metres.ensures.height) in
    simp to_z-of_z
    (height_found c.args.fill told c.args.place c.candidates-squares.result c.loop-k.k c.at.result c.in-Metres.metres c.candidates-squares.ensures.value (omega arith) c.at.ensures
    rest value)

pub returns-clause-value : goal.returns-clause-value
returns-clause-value g c told is =
    let r = c.ranges.fill in
    let rest = simp to_z-of_z at c.loop-k.invariant.1 told is in
    simp to_z-of_z
    (height_filled c.args.fill told c.args.place c.candidates-squares.result c.loop-k.k c.candidates-squares.ensures.value (omega arith) rest)
