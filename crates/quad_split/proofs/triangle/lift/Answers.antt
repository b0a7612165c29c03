-- Three products of heights and sides.
use Rattle.std.proofs.Common.{arith, FitsSigned, w32, w64}
use Rattle.std.specs.Prelude.{◌+ℤ◌}
use Rattle.std.proofs.lemmas.Int.{ints, to_z-of_z}
use Rattle.quad_split.proofs.triangle.lift.Goals as goal

pub overflow_add-result : goal.overflow_add-result
overflow_add-result c =
    let a : FitsSigned w64 c.weighted-a.result = omega (arith, ints, c.weighted-a.ensures.size) in
    let b : FitsSigned w64 c.weighted-b.result = omega (arith, ints, c.weighted-b.ensures.size) in
    simp to_z-of_z (omega (arith, ints, c.weighted-a.ensures.size, c.weighted-b.ensures.size))

pub overflow_add-result-2 : goal.overflow_add-result-2
overflow_add-result-2 c =
    let a : FitsSigned w64 c.weighted-a.result = omega (arith, ints, c.weighted-a.ensures.size) in
    let b : FitsSigned w64 c.weighted-b.result = omega (arith, ints, c.weighted-b.ensures.size) in
    let last : FitsSigned w64 c.weighted-c.result = omega (arith, ints, c.weighted-c.ensures.size) in
    let two : FitsSigned w64 (c.weighted-a.result +ℤ c.weighted-b.result) =
    omega (arith, ints, c.weighted-a.ensures.size, c.weighted-b.ensures.size) in
    simp to_z-of_z
    (omega (arith, ints, c.weighted-a.ensures.size, c.weighted-b.ensures.size, c.weighted-c.ensures.size))

pub returns-clause-value : goal.returns-clause-value
returns-clause-value c =
    let t = c.args.tri.now in
    let height_a : FitsSigned w32 t.a.h = omega (arith, ints, c.requires.heights.a.above, c.requires.heights.a.below) in
    let height_b : FitsSigned w32 t.b.h = omega (arith, ints, c.requires.heights.b.above, c.requires.heights.b.below) in
    let height_c : FitsSigned w32 t.c.h = omega (arith, ints, c.requires.heights.c.above, c.requires.heights.c.below) in
    let ab : FitsSigned w64 c.args.ab = omega (arith, ints, c.requires.ab) in
    let bc : FitsSigned w64 c.args.bc = omega (arith, ints, c.requires.bc) in
    let ca : FitsSigned w64 c.args.ca = omega (arith, ints, c.requires.ca) in
    let a : FitsSigned w64 c.weighted-a.result = omega (arith, ints, c.weighted-a.ensures.size) in
    let b : FitsSigned w64 c.weighted-b.result = omega (arith, ints, c.weighted-b.ensures.size) in
    let last : FitsSigned w64 c.weighted-c.result = omega (arith, ints, c.weighted-c.ensures.size) in
    let two : FitsSigned w64 (c.weighted-a.result +ℤ c.weighted-b.result) =
    omega (arith, ints, c.weighted-a.ensures.size, c.weighted-b.ensures.size) in
    let three : FitsSigned w64 ((c.weighted-a.result +ℤ c.weighted-b.result) +ℤ c.weighted-c.result) =
    omega (arith, ints, c.weighted-a.ensures.size, c.weighted-b.ensures.size, c.weighted-c.ensures.size) in
    let value_a = simp to_z-of_z at c.weighted-a.ensures.value in
    let value_b = simp to_z-of_z at c.weighted-b.ensures.value in
    let value_c = simp to_z-of_z at c.weighted-c.ensures.value in
    simp to_z-of_z (cc (value_a, value_b, value_c))

pub returns-clause-size : goal.returns-clause-size
returns-clause-size c =
    let a : FitsSigned w64 c.weighted-a.result = omega (arith, ints, c.weighted-a.ensures.size) in
    let b : FitsSigned w64 c.weighted-b.result = omega (arith, ints, c.weighted-b.ensures.size) in
    let last : FitsSigned w64 c.weighted-c.result = omega (arith, ints, c.weighted-c.ensures.size) in
    let two : FitsSigned w64 (c.weighted-a.result +ℤ c.weighted-b.result) =
    omega (arith, ints, c.weighted-a.ensures.size, c.weighted-b.ensures.size) in
    let three : FitsSigned w64 ((c.weighted-a.result +ℤ c.weighted-b.result) +ℤ c.weighted-c.result) =
    omega (arith, ints, c.weighted-a.ensures.size, c.weighted-b.ensures.size, c.weighted-c.ensures.size) in
    simp to_z-of_z
    (omega (arith, ints, c.weighted-a.ensures.size, c.weighted-b.ensures.size, c.weighted-c.ensures.size))
