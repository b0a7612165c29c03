-- All cells, over the least and the greatest vertex.
use Rattle.std.proofs.Common.{ap, ◌∙◌, rules, FitsSigned, w16}
use Rattle.std.specs.Prelude.{ℤ}
use Rattle.std.proofs.lemmas.Int.{to_z-of_z}
use Rattle.std.proofs.lemmas.List.{take_all}
use Rattle.post_bound.specs.Greatest.{greatest_of}
use Rattle.post_bound.specs.Span.{least_metres, most_metres, span_of_cell, span_bound_of}
use Rattle.post_bound.proofs.span.span_bound.Goals as goal

pub returns : goal.returns
unfolding span_bound_of
returns c =
    let summaries = c.args.summaries.now in let tile = c.args.tile in let mesh = c.args.mesh.now in
    let least = c.lowest-least.result in let most = c.highest-most.result in
    let least_fits : FitsSigned w16 least = search rules in
    let most_fits : FitsSigned w16 most = search rules in
    simp to_z-of_z at c.loop-cell.invariant
    ∙ ap (greatest_of (span_of_cell tile least most)) (take_all c.loop-cell.cell-index summaries c.loop-cell-test.false)
    ∙ ap (λ (z : ℤ). greatest_of (span_of_cell tile z most) summaries) (c.lowest-least.ensures ∙ ap least_metres c.points.ensures)
    ∙ ap (λ (z : ℤ). greatest_of (span_of_cell tile (least_metres mesh.points) z) summaries) (c.highest-most.ensures ∙ ap most_metres c.points-2.ensures)
