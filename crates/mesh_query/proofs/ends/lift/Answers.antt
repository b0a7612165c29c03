-- Three products that fit, and their sum.
use Rattle.std.proofs.Common.{arith, FitsSigned, w64, w32, ◌≡◌, ◌∙◌, ◌≤◌, ◌^◌}
use Rattle.std.specs.Prelude.{◌+ℤ◌, ◌*ℤ◌, unsigned_abs}
use Rattle.std.proofs.lemmas.Int.{ints, to_z-of_z}
use Rattle.mesh_query.proofs.Sizes.{turned, sum_of_three}
use Rattle.mesh_query.proofs.ends.lift.Goals as goal

pub overflow_add-result : goal.overflow_add-result
overflow_add-result c =
    let a = c.weighed-a.result in let b = c.weighed-b.result in
    let weighed_a_fits : FitsSigned w64 a = omega (arith, ints, c.weighed-a.ensures.size) in
    let weighed_b_fits : FitsSigned w64 b = omega (arith, ints, c.weighed-b.ensures.size) in
    let partial_sum_fits : FitsSigned w64 (a +ℤ b) =
    omega (arith, ints, c.weighed-a.ensures.size, c.weighed-b.ensures.size) in
    simp to_z-of_z partial_sum_fits

pub overflow_add-result-2 : goal.overflow_add-result-2
overflow_add-result-2 c =
    let a = c.weighed-a.result in let b = c.weighed-b.result in let d = c.weighed-c.result in
    let weighed_a_fits : FitsSigned w64 a = omega (arith, ints, c.weighed-a.ensures.size) in
    let weighed_b_fits : FitsSigned w64 b = omega (arith, ints, c.weighed-b.ensures.size) in
    let weighed_c_fits : FitsSigned w64 d = omega (arith, ints, c.weighed-c.ensures.size) in
    let partial_sum_fits : FitsSigned w64 (a +ℤ b) =
    omega (arith, ints, c.weighed-a.ensures.size, c.weighed-b.ensures.size) in
    let sum_fits : FitsSigned w64 ((a +ℤ b) +ℤ d) =
    omega (arith, ints, c.weighed-a.ensures.size, c.weighed-b.ensures.size, c.weighed-c.ensures.size) in
    simp to_z-of_z sum_fits

pub returns-clause-value : goal.returns-clause-value
returns-clause-value c =
    let t = c.args.tri.now in
    let a = c.weighed-a.result in let b = c.weighed-b.result in let d = c.weighed-c.result in
    let weighed_a_fits : FitsSigned w64 a = omega (arith, ints, c.weighed-a.ensures.size) in
    let weighed_b_fits : FitsSigned w64 b = omega (arith, ints, c.weighed-b.ensures.size) in
    let weighed_c_fits : FitsSigned w64 d = omega (arith, ints, c.weighed-c.ensures.size) in
    let partial_sum_fits : FitsSigned w64 (a +ℤ b) =
    omega (arith, ints, c.weighed-a.ensures.size, c.weighed-b.ensures.size) in
    let sum_fits : FitsSigned w64 ((a +ℤ b) +ℤ d) =
    omega (arith, ints, c.weighed-a.ensures.size, c.weighed-b.ensures.size, c.weighed-c.ensures.size) in
    let height_a_fits : FitsSigned w32 t.a.h = omega (arith, ints, c.requires.low.a) in
    let height_b_fits : FitsSigned w32 t.b.h = omega (arith, ints, c.requires.low.b) in
    let height_c_fits : FitsSigned w32 t.c.h = omega (arith, ints, c.requires.low.c) in
    let weight_a_fits : FitsSigned w64 c.left_of.result = omega (arith, ints, c.left_of.ensures.size) in
    let weight_b_fits : FitsSigned w64 c.left_of-2.result = omega (arith, ints, c.left_of-2.ensures.size) in
    let weight_c_fits : FitsSigned w64 c.left_of-3.result = omega (arith, ints, c.left_of-3.ensures.size) in
    let va : a ≡ c.left_of.result *ℤ t.a.h = simp to_z-of_z at c.weighed-a.ensures.value in
    let vb : b ≡ c.left_of-2.result *ℤ t.b.h = simp to_z-of_z at c.weighed-b.ensures.value in
    let vc : d ≡ c.left_of-3.result *ℤ t.c.h = simp to_z-of_z at c.weighed-c.ensures.value in
    simp to_z-of_z
    (sum_of_three a b d _ _ _ (va ∙ turned _ _ t.a.h c.left_of.ensures.value)
    (vb ∙ turned _ _ t.b.h c.left_of-2.ensures.value) (vc ∙ turned _ _ t.c.h c.left_of-3.ensures.value))

pub returns-clause-size : goal.returns-clause-size
returns-clause-size c =
    let a = c.weighed-a.result in let b = c.weighed-b.result in let d = c.weighed-c.result in
    let weighed_a_fits : FitsSigned w64 a = omega (arith, ints, c.weighed-a.ensures.size) in
    let weighed_b_fits : FitsSigned w64 b = omega (arith, ints, c.weighed-b.ensures.size) in
    let weighed_c_fits : FitsSigned w64 d = omega (arith, ints, c.weighed-c.ensures.size) in
    let partial_sum_fits : FitsSigned w64 (a +ℤ b) =
    omega (arith, ints, c.weighed-a.ensures.size, c.weighed-b.ensures.size) in
    let sum_fits : FitsSigned w64 ((a +ℤ b) +ℤ d) =
    omega (arith, ints, c.weighed-a.ensures.size, c.weighed-b.ensures.size, c.weighed-c.ensures.size) in
    let size : unsigned_abs ((a +ℤ b) +ℤ d) ≤ 2 ^ 50 =
    omega (arith, ints, c.weighed-a.ensures.size, c.weighed-b.ensures.size, c.weighed-c.ensures.size) in
    simp to_z-of_z size
