-- The difference fits 64 bits.
use Rattle.std.proofs.Common.{◌∙◌, ap, rules, arith, FitsSigned, w64}
use Rattle.std.specs.Prelude.{unsigned_abs, ◌-ℤ◌, ◌*ℤ◌}
use Rattle.std.proofs.lemmas.Int.{ints, to_z-of_z}
use Rattle.lattice_sweep.proofs.Gaps.{gap_within}
use Rattle.lattice_sweep.proofs.plane.gap.Goals as goal

pub returns-clause-value : goal.returns-clause-value
returns-clause-value c =
    let lift_range = c.ranges.lift in let under_range = c.ranges.under in let metres_range = c.ranges.metres in
    let weighted_fits : FitsSigned w64 c.weighted.result = omega (arith, ints, c.weighted.ensures.size) in
    let difference_fits : FitsSigned w64 (c.args.lift -ℤ c.weighted.result) =
    omega (arith, ints, c.weighted.ensures.size, c.requires.low, c.requires.high, c.requires.under) in
    let metres_fits : FitsSigned w64 c.from.result = search rules in
    let metres_value = simp to_z-of_z at c.from.ensures in
    let weighted_value = simp to_z-of_z at c.weighted.ensures.value in
    let gap_value = simp to_z-of_z at c.unsigned_abs.ensures.value in
    gap_value ∙ ap (λ z. unsigned_abs (c.args.lift -ℤ z)) (weighted_value ∙ ap (λ z. z *ℤ c.args.under) metres_value)

pub returns-clause-size : goal.returns-clause-size
returns-clause-size c =
    let v = returns-clause-value c in
    omega (
      arith,
      ints,
      v,
      gap_within c.args.lift c.args.under c.args.metres
          c.requires.above_zero c.requires.low c.requires.high c.requires.metres,
    )
