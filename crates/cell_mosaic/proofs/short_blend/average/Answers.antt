use Rattle.std.proofs.Common.{◌≡◌, ◌∙◌, ◌*◌, ◌^◌, lit≤, refl, sym, ap, subst, FitsSigned, w16}
use Rattle.std.proofs.lemmas.Int.{to_z-of_z}
use mir.Syntax.{w64}
use Rattle.terrain_base.specs.declared.post.Post.TheVariants.{Metres}
use Rattle.cell_mosaic.specs.Blend.{IsWithinWeight, blend_of, heights_round, weighted, weighted_sum}
use Rattle.cell_mosaic.proofs.Sums.{average_is, height_fits, sum_within}
use Rattle.cell_mosaic.proofs.Shorts.{height_fits_wide, short_weight, sum_fits, sums_within, no_voids}
use Rattle.cell_mosaic.proofs.short_blend.average.Goals as goal

pub sum_of_four-sum-requires-clause-two : goal.sum_of_four-sum-requires-clause-two
sum_of_four-sum-requires-clause-two c =
    let sw_fits : FitsSigned w64 c.scaled.result = sum_fits (2 ^ 48) _ (lit≤ tt) c.scaled.ensures.small in
    let se_fits : FitsSigned w64 c.scaled-2.result = sum_fits (2 ^ 48) _ (lit≤ tt) c.scaled-2.ensures.small in
    let nw_fits : FitsSigned w64 c.scaled-3.result = sum_fits (2 ^ 48) _ (lit≤ tt) c.scaled-3.ensures.small in
    let ne_fits : FitsSigned w64 c.scaled-4.result = sum_fits (2 ^ 48) _ (lit≤ tt) c.scaled-4.ensures.small in
    let sums = sums_within c.args.east c.args.east_unit c.args.north c.args.north_unit (2 ^ 48) _ _ _ _
    c.requires.east.0 c.requires.north.0
    (short_weight c.args.east_unit c.args.north_unit c.requires.east.2 c.requires.north.2)
    c.scaled.ensures.within c.scaled-2.ensures.within c.scaled-3.ensures.within c.scaled-4.ensures.within in
    simp to_z-of_z sums.two

pub sum_of_four-sum-requires-clause-three : goal.sum_of_four-sum-requires-clause-three
sum_of_four-sum-requires-clause-three c =
    let sw_fits : FitsSigned w64 c.scaled.result = sum_fits (2 ^ 48) _ (lit≤ tt) c.scaled.ensures.small in
    let se_fits : FitsSigned w64 c.scaled-2.result = sum_fits (2 ^ 48) _ (lit≤ tt) c.scaled-2.ensures.small in
    let nw_fits : FitsSigned w64 c.scaled-3.result = sum_fits (2 ^ 48) _ (lit≤ tt) c.scaled-3.ensures.small in
    let ne_fits : FitsSigned w64 c.scaled-4.result = sum_fits (2 ^ 48) _ (lit≤ tt) c.scaled-4.ensures.small in
    let sums = sums_within c.args.east c.args.east_unit c.args.north c.args.north_unit (2 ^ 48) _ _ _ _
    c.requires.east.0 c.requires.north.0
    (short_weight c.args.east_unit c.args.north_unit c.requires.east.2 c.requires.north.2)
    c.scaled.ensures.within c.scaled-2.ensures.within c.scaled-3.ensures.within c.scaled-4.ensures.within in
    simp to_z-of_z sums.three

pub sum_of_four-sum-requires-clause-four : goal.sum_of_four-sum-requires-clause-four
sum_of_four-sum-requires-clause-four c =
    let sw_fits : FitsSigned w64 c.scaled.result = sum_fits (2 ^ 48) _ (lit≤ tt) c.scaled.ensures.small in
    let se_fits : FitsSigned w64 c.scaled-2.result = sum_fits (2 ^ 48) _ (lit≤ tt) c.scaled-2.ensures.small in
    let nw_fits : FitsSigned w64 c.scaled-3.result = sum_fits (2 ^ 48) _ (lit≤ tt) c.scaled-3.ensures.small in
    let ne_fits : FitsSigned w64 c.scaled-4.result = sum_fits (2 ^ 48) _ (lit≤ tt) c.scaled-4.ensures.small in
    let sums = sums_within c.args.east c.args.east_unit c.args.north c.args.north_unit (2 ^ 48) _ _ _ _
    c.requires.east.0 c.requires.north.0
    (short_weight c.args.east_unit c.args.north_unit c.requires.east.2 c.requires.north.2)
    c.scaled.ensures.within c.scaled-2.ensures.within c.scaled-3.ensures.within c.scaled-4.ensures.within in
    simp to_z-of_z sums.four

pub quotient-requires-clause-within : goal.quotient-requires-clause-within
quotient-requires-clause-within c =
    let sw_fits : FitsSigned w64 c.scaled.result = sum_fits (2 ^ 48) _ (lit≤ tt) c.scaled.ensures.small in
    let se_fits : FitsSigned w64 c.scaled-2.result = sum_fits (2 ^ 48) _ (lit≤ tt) c.scaled-2.ensures.small in
    let nw_fits : FitsSigned w64 c.scaled-3.result = sum_fits (2 ^ 48) _ (lit≤ tt) c.scaled-3.ensures.small in
    let ne_fits : FitsSigned w64 c.scaled-4.result = sum_fits (2 ^ 48) _ (lit≤ tt) c.scaled-4.ensures.small in
    let sum_fit : FitsSigned w64 c.sum_of_four-sum.result =
    sum_fits (2 ^ 48) _ (lit≤ tt) c.sum_of_four-sum.ensures.small in
    let sum_is = simp to_z-of_z at c.sum_of_four-sum.ensures.value in
    simp to_z-of_z
    (subst (IsWithinWeight (c.args.east_unit * c.args.north_unit)) (sym sum_is)
    (sum_within c.args.east c.args.east_unit c.args.north c.args.north_unit _ _ _ _ c.requires.east.0 c.requires.north.0
    c.scaled.ensures.within c.scaled-2.ensures.within c.scaled-3.ensures.within c.scaled-4.ensures.within))

pub returns-clause-value : goal.returns-clause-value
unfolding blend_of
returns-clause-value c =
    let sw_fits : FitsSigned w64 c.scaled.result = sum_fits (2 ^ 48) _ (lit≤ tt) c.scaled.ensures.small in
    let se_fits : FitsSigned w64 c.scaled-2.result = sum_fits (2 ^ 48) _ (lit≤ tt) c.scaled-2.ensures.small in
    let nw_fits : FitsSigned w64 c.scaled-3.result = sum_fits (2 ^ 48) _ (lit≤ tt) c.scaled-3.ensures.small in
    let ne_fits : FitsSigned w64 c.scaled-4.result = sum_fits (2 ^ 48) _ (lit≤ tt) c.scaled-4.ensures.small in
    let sum_fit : FitsSigned w64 c.sum_of_four-sum.result =
    sum_fits (2 ^ 48) _ (lit≤ tt) c.sum_of_four-sum.ensures.small in
    let result_fits : FitsSigned w16 c.quotient.result = height_fits _ c.quotient.ensures.height in
    let wide_fits : FitsSigned w64 c.quotient.result = height_fits_wide _ c.quotient.ensures.height in
    let sw_is_height = height_fits _ c.requires.sw in
    let se_is_height = height_fits _ c.requires.se in
    let nw_is_height = height_fits _ c.requires.nw in
    let ne_is_height = height_fits _ c.requires.ne in
    let sw_is = simp to_z-of_z at c.scaled.ensures.value in
    let se_is = simp to_z-of_z at c.scaled-2.ensures.value in
    let nw_is = simp to_z-of_z at c.scaled-3.ensures.value in
    let ne_is = simp to_z-of_z at c.scaled-4.ensures.value in
    let sum_is = simp to_z-of_z at c.sum_of_four-sum.ensures.value in
    let quotient_is = simp to_z-of_z at c.quotient.ensures.value in
    let posts = weighted (heights_round c.args.sw c.args.se c.args.nw c.args.ne)
    c.args.east c.args.east_unit c.args.north c.args.north_unit in
    let sum : c.sum_of_four-sum.result ≡ weighted_sum posts =
    sum_is ∙ rw (sw_is, se_is, nw_is, ne_is) refl in
    let none = no_voids c.args.sw c.args.se c.args.nw c.args.ne
    c.args.east c.args.east_unit c.args.north c.args.north_unit in
    simp to_z-of_z (ap Metres quotient_is ∙ average_is posts (c.args.east_unit * c.args.north_unit) _ none sum)

pub returns-clause-height : goal.returns-clause-height
returns-clause-height c =
    let result_fits : FitsSigned w16 c.quotient.result = height_fits _ c.quotient.ensures.height in
    let wide_fits : FitsSigned w64 c.quotient.result = height_fits_wide _ c.quotient.ensures.height in
    simp to_z-of_z c.quotient.ensures.height

pub overflow_cast-result : goal.overflow_cast-result
overflow_cast-result c =
    let wide_fits : FitsSigned w64 c.quotient.result = height_fits_wide _ c.quotient.ensures.height in
    simp to_z-of_z (height_fits _ c.quotient.ensures.height)
