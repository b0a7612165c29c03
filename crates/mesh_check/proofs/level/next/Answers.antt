-- The last of a slab is not passed.
use Rattle.std.proofs.Common.{arith, FitsSigned, w64, inl, inr, ⊎_elim}
use Rattle.std.specs.Prelude.{pos}
use Rattle.std.proofs.lemmas.Int.{ints, to_z-of_z}
use Rattle.mesh_check.proofs.LevelWalk.{is_most, most_is, lower_row, upper_row, next_of}
use Rattle.mesh_check.proofs.level.next.Goals as goal

pub ahead-ahead-requires-clause-from : goal.ahead-ahead-requires-clause-from
ahead-ahead-requires-clause-from c =
    let range = c.ranges.v in
    simp to_z-of_z ((lower_row c.args.v c.args.lower.now c.args.upper.now c.requires.beside).each c.args.at.lower _
    c.requires.overlap.in_lower).right_meets

pub ahead-ahead-requires-clause-to : goal.ahead-ahead-requires-clause-to
ahead-ahead-requires-clause-to c =
    let range = c.ranges.v in
    simp to_z-of_z ((upper_row c.args.v c.args.lower.now c.args.upper.now c.requires.beside).each c.args.at.upper _
    c.requires.overlap.in_upper).right_meets

pub returns : goal.returns
returns c =
    let range = c.ranges.v in
    let v = c.args.v in let lower = c.args.lower.now in let upper = c.args.upper.now in
    let ahead = c.ahead-ahead.result in
    let fits_ahead : FitsSigned w64 ahead = omega (arith, ints, c.ahead-ahead.ensures.size) in
    let ahead_is = simp to_z-of_z at c.ahead-ahead.ensures.value in
    let lower_by = simp to_z-of_z at c.after.ensures.by in
    let upper_by = simp to_z-of_z at c.after-2.ensures.by in
    let lower_on = simp to_z-of_z at c.after.ensures.on in
    let upper_on = simp to_z-of_z at c.after-2.ensures.on in
    next_of v lower upper c.requires.beside c.args.at
    (record { lower = c.after.result; upper = c.after-2.result }) c.requires.overlap _ ahead ahead_is
    c.after.ensures.within c.after-2.ensures.within
    (⊎_elim (λ p. inl p) (λ p. inr (p.0, is_most (pos 0) ahead p.1)) lower_by)
    (⊎_elim (λ p. inl p) (λ p. inr (p.0, is_most ahead (pos 0) p.1)) upper_by)
    (λ h l. lower_on (most_is (pos 0) ahead h) l) (λ h l. upper_on (most_is ahead (pos 0) h) l) c.requires.more
