use Rattle.std.proofs.Common.{arith, ◌+ℤ◌, ◌-ℤ◌, FitsSigned, w64}
use Rattle.std.proofs.lemmas.Int.{ints, to_z-of_z}
use Rattle.edge_decimate.proofs.straight.gap_at.Goals as goal

pub overflow_sub-result : goal.overflow_sub-result
overflow_sub-result c = omega (arith, ints)

pub returns-clause-value : goal.returns-clause-value
returns-clause-value c =
    let here_fits : FitsSigned w64 c.weighed-here.result = omega (arith, ints) in
    let first_fits : FitsSigned w64 c.weighed-first.result = omega (arith, ints) in
    let last_fits : FitsSigned w64 c.weighed-last.result = omega (arith, ints) in
    let first_and_last_fit : FitsSigned w64 (c.weighed-first.result +ℤ c.weighed-last.result) = omega (arith, ints) in
    let gap_fits : FitsSigned w64 (c.weighed-here.result -ℤ
    (c.weighed-first.result +ℤ c.weighed-last.result)) = omega (arith, ints) in
    let whole_length_fits : FitsSigned w64 c.length_from.result = omega (arith, ints) in
    let length_to_end_fits : FitsSigned w64 c.length_from-2.result = omega (arith, ints) in
    let length_to_here_fits : FitsSigned w64 c.length_from-3.result = omega (arith, ints) in
    let here_value = simp to_z-of_z at c.weighed-here.ensures.value in
    let first_value = simp to_z-of_z at c.weighed-first.ensures.value in
    let last_value = simp to_z-of_z at c.weighed-last.ensures.value in
    let whole_length = c.length_from.ensures.value in let length_to_end = c.length_from-2.ensures.value in
    let length_to_here = c.length_from-3.ensures.value in
    simp to_z-of_z (cc (here_value, first_value, last_value, whole_length, length_to_end, length_to_here))

pub returns-clause-size : goal.returns-clause-size
returns-clause-size c =
    let here_fits : FitsSigned w64 c.weighed-here.result = omega (arith, ints) in
    let first_fits : FitsSigned w64 c.weighed-first.result = omega (arith, ints) in
    let last_fits : FitsSigned w64 c.weighed-last.result = omega (arith, ints) in
    let first_and_last_fit : FitsSigned w64 (c.weighed-first.result +ℤ c.weighed-last.result) = omega (arith, ints) in
    let gap_fits : FitsSigned w64 (c.weighed-here.result -ℤ
    (c.weighed-first.result +ℤ c.weighed-last.result)) = omega (arith, ints) in
    simp to_z-of_z (omega (arith, ints))
