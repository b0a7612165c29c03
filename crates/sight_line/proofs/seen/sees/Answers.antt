-- The two ends and the triangles decide.
use Rattle.std.proofs.Common.{arith, refl, FitsSigned, w64}
use Rattle.std.proofs.lemmas.Int.{ints, to_z-of_z}
use Rattle.mesh_query.specs.Found.{at_place}
use Rattle.sight_line.specs.Sight.{IsClear}
use Rattle.sight_line.proofs.Cuts.{off, never}
use Rattle.sight_line.proofs.Views.{dip_first, dip_last, dip_side, no_dips}
use Rattle.sight_line.proofs.seen.sees.Goals as goal

pub returns-then-dips : goal.returns-then-dips
returns-then-dips c =
    let line = c.args.line.now in
    never (IsClear c.args.tris.now (at_place line.from) line.start (at_place line.to) line.end)
    (dip_first c.args.tris.now line.from line.to line.start line.end c.requires.covers c.args.first.now c.requires.first
    (c.dips.ensures.0 c.if-dips.true))

pub returns-then-is_hidden : goal.returns-then-is_hidden
returns-then-is_hidden c =
    let line = c.args.line.now in
    never (IsClear c.args.tris.now (at_place line.from) line.start (at_place line.to) line.end)
    (dip_side c.args.tris.now line.from line.to line.start line.end c.requires.covers
    (c.is_hidden.ensures.0 c.if-is_hidden.true))

pub returns-then-dips-2 : goal.returns-then-dips-2
returns-then-dips-2 c =
    let line = c.args.line.now in let last = c.start-last.result in
    let under : FitsSigned w64 last.under =
    omega (arith, ints, c.start-last.ensures.above_zero, c.start-last.ensures.under_size) in
    let height : FitsSigned w64 last.height = omega (arith, ints, c.start-last.ensures.height_size) in
    let dip = simp to_z-of_z at c.dips-2.ensures in
    never (IsClear c.args.tris.now (at_place line.from) line.start (at_place line.to) line.end)
    (dip_last c.args.tris.now line.from line.to line.start line.end c.requires.covers last c.start-last.ensures
    (dip.0 c.if-dips-2.true))

pub returns : goal.returns
returns c =
    let line = c.args.line.now in let last = c.start-last.result in
    let under : FitsSigned w64 last.under =
    omega (arith, ints, c.start-last.ensures.above_zero, c.start-last.ensures.under_size) in
    let height : FitsSigned w64 last.height = omega (arith, ints, c.start-last.ensures.height_size) in
    let dip = simp to_z-of_z at c.dips-2.ensures in (
      λ t. no_dips c.args.tris.now line.from line.to line.start line.end c.requires.covers c.args.first.now last
          c.requires.first c.start-last.ensures (λ x. off c.dips.result c.if-dips.false (c.dips.ensures.1 x))
          (λ x. off c.dips-2.result c.if-dips-2.false (dip.1 x))
          (λ x. off c.is_hidden.result c.if-is_hidden.false (c.is_hidden.ensures.1 x)),
      λ h. refl,
    )
