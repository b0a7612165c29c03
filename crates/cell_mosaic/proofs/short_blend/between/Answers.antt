use Rattle.std.proofs.Common.{◌∙◌, refl, FitsSigned, w16}
use Rattle.std.proofs.lemmas.Int.{to_z-of_z}
use Rattle.cell_mosaic.proofs.Sums.{height_fits}
use Rattle.cell_mosaic.proofs.Thinning.{blend_of_parts}
use Rattle.cell_mosaic.proofs.short_blend.between.Goals as goal

pub returns-clause-value : goal.returns-clause-value
returns-clause-value c =
    let east = c.if-not-are_multiples.ensures.east refl in
    let north = c.if-not-are_multiples.ensures.north refl in
    let result_fits : FitsSigned w16 c.average-2.result = height_fits _ c.average-2.ensures.height in
    let sw_is_height = height_fits _ c.requires.sw in
    let se_is_height = height_fits _ c.requires.se in
    let nw_is_height = height_fits _ c.requires.nw in
    let ne_is_height = height_fits _ c.requires.ne in
    let value = simp to_z-of_z at c.average-2.ensures.value in
    simp to_z-of_z (value ∙ blend_of_parts c.args.sw c.args.se c.args.nw c.args.ne
    c.args.east c.args.east_unit c.args.north c.args.north_unit c.requires.east.1 c.requires.north.1
    east.0 east.1 north.0 north.1)
