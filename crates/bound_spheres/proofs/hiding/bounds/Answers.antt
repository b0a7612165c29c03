use Rattle.std.proofs.Common.{◌≡◌, rules, FitsSigned, ◌∙◌}
use Rattle.std.proofs.lemmas.Int.{to_z-of_z}
use Rattle.std.specs.Int.{int_max, int_min}
use mir.Syntax.{w64}
use Rattle.common_laws.proofs.Extremes.{ord_min_is, ord_max_is}
use Rattle.bound_spheres.proofs.Together.{bounds_end, bounds_next}
use Rattle.bound_spheres.proofs.hiding.bounds.Goals as goal

pub loop-next-preserved : goal.loop-next-preserved
loop-next-preserved c =
    let here = c.inner.result in
    let along = c.inner-in-loop-next.result in
    let here_fits : FitsSigned w64 here = search rules in
    let along_fits : FitsSigned w64 along = search rules in
    let square_fits : FitsSigned w64 c.max-square.result = search rules in
    let product_fits : FitsSigned w64 c.min-product.result = search rules in
    let square_is : c.max-square.result ≡ int_max c.loop-next.square here =
    (simp (to_z-of_z, c.loop-next.square-is) at c.max-square.ensures) ∙ ord_max_is c.loop-next.square here in
    let product_is : c.min-product.result ≡ int_min c.loop-next.product along =
    (simp (to_z-of_z, c.loop-next.product-is) at c.min-product.ensures) ∙ ord_min_is c.loop-next.product along in
    simp to_z-of_z
    (rw (square_is, product_is)
    (bounds_next c.args.c.now c.args.corners.now c.loop-next.next-index _ c.loop-next.square c.loop-next.product here along
    c.loop-next-test.true c.inner.ensures c.inner-in-loop-next.ensures
    (rw (c.loop-next.square-is, c.loop-next.product-is) at c.loop-next.invariant)))

pub returns : goal.returns
returns c = bounds_end c.args.c.now c.args.corners.now c.loop-next.next-index _ _ c.loop-next-test.false c.loop-next.invariant
