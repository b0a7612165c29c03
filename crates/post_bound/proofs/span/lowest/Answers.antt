-- Vertex by vertex.
use Rattle.std.proofs.Common.{pos, take, fold, map, get_or, sym, ap, ◌∙◌, arith, rules, FitsSigned, w16, to_z}
use Rattle.std.specs.Int.{int_min}
use Rattle.std.proofs.lemmas.Int.{to_z-of_z}
use Rattle.std.proofs.lemmas.List.{length-map, get_or-map, take_all}
use Rattle.std.proofs.lemmas.List.Sums.{fold_more}
use Rattle.common_laws.proofs.Extremes.{ord_min_is}
use Rattle.tile_mesh.specs.declared.point.MeshPoint.{MeshPoint}
use Rattle.post_bound.proofs.span.lowest.Goals as goal

pub loop-point-preserved : goal.loop-point-preserved
loop-point-preserved c =
    let points = c.args.points.now in let i = c.loop-point.point-index in
    let metres = map (λ (p : MeshPoint). p.metres) points in
    let point : MeshPoint = record { i = 0; j = 0; metres = pos 0 } in
    let metres_fit : FitsSigned w16 (get_or points i point).metres = search rules in
    let result_fits : FitsSigned w16 c.min-least.result = search rules in
    simp to_z-of_z (simp to_z-of_z at c.min-least.ensures
    ∙ ord_min_is (to_z w16 c.loop-point.least-bits) (get_or points i point).metres
    ∙ ap (λ z. int_min z (get_or points i point).metres) c.loop-point.invariant
    ∙ ap (λ z. int_min (fold int_min (pos 16000) (take i metres)) z) (sym (get_or-map (λ (p : MeshPoint). p.metres) points i point (pos 0) c.loop-point-test.true))
    ∙ sym (fold_more int_min (pos 16000) metres i (pos 0) (omega (arith, length-map points (λ (p : MeshPoint). p.metres), c.loop-point-test.true))))

pub returns : goal.returns
returns c =
    let points = c.args.points.now in
    let metres = map (λ (p : MeshPoint). p.metres) points in
    c.loop-point.invariant ∙ ap (λ xs. fold int_min (pos 16000) xs)
    (take_all c.loop-point.point-index metres (omega (arith, length-map points (λ (p : MeshPoint). p.metres), c.loop-point-test.false)))
