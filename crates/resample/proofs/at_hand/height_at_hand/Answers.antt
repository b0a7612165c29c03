use Rattle.std.proofs.Common.{◌∙◌, ◌<◌, Some, ap, sym, subst, arith, FitsSigned, w16}
use Rattle.std.proofs.lemmas.Int.{to_z-of_z}
use Rattle.terrain_base.specs.declared.post.Post.{Post}
use Rattle.dted_cell.specs.Elevation.{IsPost}
use Rattle.cell_mosaic.proofs.Sums.{height_fits}
use Rattle.resample.specs.Height.{height_or}
use Rattle.resample.proofs.Lines.{one_on_lines, height_of_one}
use Rattle.resample.proofs.Places.{known_finest}
use Rattle.resample.proofs.at_hand.height_at_hand.Goals as goal

pub returns-in-Metres-clause-value : goal.returns-in-Metres-clause-value
returns-in-Metres-clause-value g c fill files told is =
    let square = c.args.block.now.square in
    let shapes = g.P.PostSource.shapes c.args.src.now in
    let inside_east : 0 < c.args.east.now.rest = omega (arith, c.if-east-eq0.false) in
    let inside_north : 0 < c.args.north.now.rest = omega (arith, c.if-north-eq0.false) in
    let one = one_on_lines c.args.place square c.args.east.now c.args.north.now
    (c.requires.east.0, inside_east, c.requires.east.1 inside_east)
    (c.requires.north.0, inside_north, c.requires.north.1 inside_north) in
    let post = c.in_ok-metres.field-0 in
    let metres = c.in-Metres.metres in
    let fits : FitsSigned w16 metres = height_fits _ (subst IsPost c.in-Metres.is c.in_ok-metres.ensures.height) in
    simp to_z-of_z
    (height_of_one fill told c.args.place square post metres one
    (known_finest told shapes square c.in_ok-level.level c.args.place post metres
    (g.met.P.PostSource.agree c.args.src.now files told is)
    (sym c.in_ok-level.was ∙ c.requires.block.finest_is) (c.in_ok-metres.ensures.value files told is) c.in-Metres.is)
    (ap (λ (p : Post). height_or fill (Some p)) (sym c.in-Metres.is)))
