use Rattle.std.proofs.Common.{◌≡◌, ◌*◌, ◌^◌, lit≤, FitsSigned, w16, get_or, sym, subst, ap, ◌∙◌, refl, false}
use Rattle.std.specs.Int.{w128}
use Rattle.std.specs.List.{list_any}
use Rattle.std.proofs.lemmas.Int.{to_z-of_z}
use Rattle.terrain_base.specs.declared.post.Post.TheVariants.{Metres}
use Rattle.dted_cell.specs.Elevation.{IsPost}
use Rattle.cell_mosaic.specs.Blend.{times, weighted, weighted_sum, counted, has_no_height, IsWithinWeight, blend_of}
use Rattle.cell_mosaic.proofs.Heaviest.{ArePosts, nothing, heaviest_is_post}
use Rattle.cell_mosaic.proofs.Sums.{sum_within, average_is, small_fits, height_fits}
use Rattle.cell_mosaic.proofs.blending.blend.Goals as goal

pub returns-then-has_void-clause-height : goal.returns-then-has_void-clause-height
returns-then-has_void-clause-height c =
    let r = c.requires in
    subst IsPost (sym c.nearest.ensures) (heaviest_is_post _ (subst ArePosts (sym c.weigh-posts.ensures) (r.sw, (r.se, (r.nw, (r.ne, tt))))))

pub round-requires-clause-within : goal.round-requires-clause-within
round-requires-clause-within c =
    let sw_fits : FitsSigned w128 c.product.result = small_fits (2 ^ 74) _ (lit≤ tt) c.product.ensures.small in
    let se_fits : FitsSigned w128 c.product-2.result = small_fits (2 ^ 74) _ (lit≤ tt) c.product-2.ensures.small in
    let nw_fits : FitsSigned w128 c.product-3.result = small_fits (2 ^ 74) _ (lit≤ tt) c.product-3.ensures.small in
    let ne_fits : FitsSigned w128 c.product-4.result = small_fits (2 ^ 74) _ (lit≤ tt) c.product-4.ensures.small in
    let sum_fits : FitsSigned w128 c.sum_of_four-sum.result = small_fits (2 ^ 76) _ (lit≤ tt) c.sum_of_four-sum.ensures.small in
    let sum_is = simp to_z-of_z at c.sum_of_four-sum.ensures.value in
    let posts_are = c.weigh-posts.ensures in
    let sw_within = subst (λ ws. IsWithinWeight (get_or ws 0 nothing).weight c.product.result) posts_are c.product.ensures.within in
    let se_within = subst (λ ws. IsWithinWeight (get_or ws 1 nothing).weight c.product-2.result) posts_are c.product-2.ensures.within in
    let nw_within = subst (λ ws. IsWithinWeight (get_or ws 2 nothing).weight c.product-3.result) posts_are c.product-3.ensures.within in
    let ne_within = subst (λ ws. IsWithinWeight (get_or ws 3 nothing).weight c.product-4.result) posts_are c.product-4.ensures.within in
    simp to_z-of_z
    (subst (IsWithinWeight (c.args.east_unit * c.args.north_unit)) (sym sum_is)
    (sum_within c.args.east c.args.east_unit c.args.north c.args.north_unit _ _ _ _ c.requires.east.0 c.requires.north.0 sw_within se_within nw_within ne_within))

pub returns-clause-value : goal.returns-clause-value
unfolding blend_of
returns-clause-value c =
    let sw_fits : FitsSigned w128 c.product.result = small_fits (2 ^ 74) _ (lit≤ tt) c.product.ensures.small in
    let se_fits : FitsSigned w128 c.product-2.result = small_fits (2 ^ 74) _ (lit≤ tt) c.product-2.ensures.small in
    let nw_fits : FitsSigned w128 c.product-3.result = small_fits (2 ^ 74) _ (lit≤ tt) c.product-3.ensures.small in
    let ne_fits : FitsSigned w128 c.product-4.result = small_fits (2 ^ 74) _ (lit≤ tt) c.product-4.ensures.small in
    let sum_fits : FitsSigned w128 c.sum_of_four-sum.result = small_fits (2 ^ 76) _ (lit≤ tt) c.sum_of_four-sum.ensures.small in
    let result_fits : FitsSigned w16 c.round.result = height_fits _ c.round.ensures.height in
    let sum_is = simp to_z-of_z at c.sum_of_four-sum.ensures.value in
    let round_is = simp to_z-of_z at c.round.ensures.value in
    let posts_are = c.weigh-posts.ensures in
    let posts = weighted c.args.quad.now c.args.east c.args.east_unit c.args.north c.args.north_unit in
    let unit = c.args.east_unit * c.args.north_unit in
    let sw_is = subst (λ ws. c.product.result ≡ times (get_or ws 0 nothing).post (get_or ws 0 nothing).weight) posts_are c.product.ensures.value in
    let se_is = subst (λ ws. c.product-2.result ≡ times (get_or ws 1 nothing).post (get_or ws 1 nothing).weight) posts_are c.product-2.ensures.value in
    let nw_is = subst (λ ws. c.product-3.result ≡ times (get_or ws 2 nothing).post (get_or ws 2 nothing).weight) posts_are c.product-3.ensures.value in
    let ne_is = subst (λ ws. c.product-4.result ≡ times (get_or ws 3 nothing).post (get_or ws 3 nothing).weight) posts_are c.product-4.ensures.value in
    let sum : c.sum_of_four-sum.result ≡ weighted_sum posts =
    sum_is ∙ rw (sw_is, se_is, nw_is, ne_is) refl in
    let none : list_any has_no_height (counted posts) ≡ false = ap (λ ws. list_any has_no_height (counted ws)) (sym posts_are) ∙ sym c.has_void.ensures ∙ c.if-has_void.false in
    simp to_z-of_z (ap Metres round_is ∙ average_is posts unit c.sum_of_four-sum.result none sum)
