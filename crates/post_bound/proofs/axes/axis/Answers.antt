-- Its numbers, by what each function says.
use Rattle.std.proofs.Common.{◌*◌, arith, rules, FitsSigned, w64, ap, ◌∙◌}
use Rattle.std.specs.Prelude.{ℤ, pos, ◌+ℤ◌, ◌-ℤ◌, ◌*ℤ◌}
use Rattle.std.proofs.lemmas.Int.{ints, to_z-of_z}
use Rattle.post_bound.proofs.Turns.{place_is, step_size}
use Rattle.post_bound.proofs.axes.axis.Goals as goal

pub returns-clause-points : goal.returns-clause-points
returns-clause-points c i =
    let seconds_range = c.ranges.seconds in let scale_range = c.ranges.k in
    let start_fits : FitsSigned w64 c.start.result = search rules in
    let first_fits : FitsSigned w64 c.widened.result = search rules in
    let scaled_spacing_fits : FitsSigned w64 c.times.result = search rules in
    let step_fits : FitsSigned w64 c.widened-2.result = search rules in
    let spacing_fits : FitsSigned w64 c.from.result = search rules in
    let start_value = simp to_z-of_z at c.start.ensures.value in
    let first_value = simp to_z-of_z at c.widened.ensures.value in
    let scaled_spacing_value = simp to_z-of_z at c.times.ensures.value in
    let step_value = simp to_z-of_z at c.widened-2.ensures.value in
    let k = c.args.k in
    simp to_z-of_z
    (ap (λ (z : ℤ). z +ℤ c.widened-2.result *ℤ pos i) (first_value ∙ ap (λ (z : ℤ). pos 32767 *ℤ z) start_value)
    ∙ ap (λ (z : ℤ). pos 32767 *ℤ (c.args.seconds *ℤ k -ℤ pos (10125 * c.args.stripe)) +ℤ z *ℤ pos i)
    (step_value ∙ ap (λ (z : ℤ). pos 32767 *ℤ z) (scaled_spacing_value ∙ ap (λ (z : ℤ). z *ℤ k) c.from.ensures))
    ∙ place_is c.args.seconds k c.args.stripe c.args.step i)

pub returns-clause-axis : goal.returns-clause-axis
returns-clause-axis c =
    let seconds_range = c.ranges.seconds in let scale_range = c.ranges.k in
    let first_fits : FitsSigned w64 c.widened.result = search rules in
    let scaled_spacing_fits : FitsSigned w64 c.times.result = search rules in
    let step_fits : FitsSigned w64 c.widened-2.result = search rules in
    let spacing_fits : FitsSigned w64 c.from.result = search rules in
    let scaled_spacing_value = simp to_z-of_z at c.times.ensures.value in
    let step_value = simp to_z-of_z at c.widened-2.ensures.value in
    let step_bounds = step_size (pos c.args.step) c.args.k (omega (arith, ints, c.requires.step))
    (omega (arith, ints, c.requires.step)) c.requires.k.0 c.requires.k.1 in
    let scaled_spacing_is = scaled_spacing_value ∙ ap (λ (z : ℤ). z *ℤ c.args.k) c.from.ensures in
    simp to_z-of_z (record {
      first = omega (arith, c.widened.ensures.size);
      forwards = omega (arith, ints, step_value, scaled_spacing_is, step_bounds.0);
      step = omega (arith, ints, step_value, scaled_spacing_is, step_bounds.1);
    })
