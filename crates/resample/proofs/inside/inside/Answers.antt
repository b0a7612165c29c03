use Rattle.std.proofs.Common.{◌∙◌, Some, ap, sym, subst, refl, FitsSigned, w16}
use Rattle.std.proofs.lemmas.Int.{to_z-of_z}
use Rattle.terrain_base.specs.declared.post.Post.TheVariants.{Void}
use Rattle.dted_cell.specs.Elevation.{IsPost}
use Rattle.cell_mosaic.proofs.Sums.{height_fits}
use Rattle.cell_mosaic.proofs.Keeping.{told_next}
use Rattle.cell_mosaic.proofs.Values.{void_finest}
use Rattle.resample.specs.Height.{height_or}
use Rattle.resample.proofs.Lines.{one_on_lines, one_holds, height_of_one}
use Rattle.resample.proofs.Places.{no_value, known_finest}
use Rattle.resample.proofs.inside.inside.Goals as goal

pub returns-in_default-clause-value : goal.returns-in_default-clause-value
returns-in_default-clause-value g c told is =
    let r = c.ranges.fill in
    let square = c.args.block.now.square in
    let one = one_on_lines c.args.place square c.args.east.now c.args.north.now c.requires.east c.requires.north in
    simp to_z-of_z
    (height_of_one c.args.fill told c.args.place square Void c.args.fill one
    (no_value told (g.P.PostSource.shapes c.args.src.now) square c.args.place (g.met.P.PostSource.agree c.args.src.now (g.S.Store.holds c.args.store.now) told is) (sym c.in_default.is ∙ c.requires.finest))
    refl)

pub returns-in-Metres-clause-value : goal.returns-in-Metres-clause-value
returns-in-Metres-clause-value g c told is =
    let square = c.args.block.now.square in
    let one = one_on_lines c.args.place square c.args.east.now c.args.north.now c.requires.east c.requires.north in
    let f : FitsSigned w16 c.in-Metres.metres = height_fits _ (subst IsPost c.in-Metres.is c.in_ok-metres.ensures.height) in
    simp to_z-of_z
    (height_of_one c.args.fill told c.args.place square c.in_ok-metres.field-0 c.in-Metres.metres one
    (known_finest told (g.P.PostSource.shapes c.args.src.now) square c.in-Some.level c.args.place c.in_ok-metres.field-0 c.in-Metres.metres
    (g.met.P.PostSource.agree c.args.src.now (g.S.Store.holds c.args.store.now) told is) (sym c.in-Some.is ∙ c.requires.finest) (c.in_ok-metres.ensures.value told is) c.in-Metres.is)
    (ap (λ post. height_or c.args.fill (Some post)) (sym c.in-Metres.is)))

pub coarser_value-requires-clause-holds : goal.coarser_value-requires-clause-holds
coarser_value-requires-clause-holds g c =
    let square = c.args.block.now.square in
    one_holds c.args.place square c.requires.place (one_on_lines c.args.place square c.args.east.now c.args.north.now c.requires.east c.requires.north)

pub returns-in-Metres-2-clause-value : goal.returns-in-Metres-2-clause-value
returns-in-Metres-2-clause-value g c told is =
    let square = c.args.block.now.square in
    let one = one_on_lines c.args.place square c.args.east.now c.args.north.now c.requires.east c.requires.north in
    let are = g.met.P.PostSource.agree c.args.src.now (g.S.Store.holds c.args.store.now) told is in
    let f : FitsSigned w16 c.in-Metres-2.metres = height_fits _ (subst IsPost c.in-Metres-2.is c.in_ok-metres-2.ensures.height) in
    simp to_z-of_z
    (height_of_one c.args.fill told c.args.place square c.in_ok-metres-2.field-0 c.in-Metres-2.metres one
    (c.in_ok-metres-2.ensures.value told (told_next c.in_ok-metres.ensures.leaves told is)
    ∙ void_finest told (g.P.PostSource.shapes c.args.src.now) square c.args.place are c.in-Some.level c.in_ok-metres.field-0 (sym c.in-Some.is ∙ c.requires.finest) (c.in_ok-metres.ensures.value told is) c.in_default-2.is)
    (ap (λ post. height_or c.args.fill (Some post)) (sym c.in-Metres-2.is)))

pub returns-in-Void-clause-value : goal.returns-in-Void-clause-value
returns-in-Void-clause-value g c told is =
    let r = c.ranges.fill in
    let square = c.args.block.now.square in
    let one = one_on_lines c.args.place square c.args.east.now c.args.north.now c.requires.east c.requires.north in
    let are = g.met.P.PostSource.agree c.args.src.now (g.S.Store.holds c.args.store.now) told is in
    simp to_z-of_z
    (height_of_one c.args.fill told c.args.place square c.in_ok-metres-2.field-0 c.args.fill one
    (c.in_ok-metres-2.ensures.value told (told_next c.in_ok-metres.ensures.leaves told is)
    ∙ void_finest told (g.P.PostSource.shapes c.args.src.now) square c.args.place are c.in-Some.level c.in_ok-metres.field-0 (sym c.in-Some.is ∙ c.requires.finest) (c.in_ok-metres.ensures.value told is) c.in_default-2.is)
    (ap (λ post. height_or c.args.fill (Some post)) (sym c.in-Void.is)))
