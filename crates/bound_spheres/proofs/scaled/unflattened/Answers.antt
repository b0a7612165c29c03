use Rattle.std.proofs.Common.{◌≡◌, ◌≤◌, ◌^◌, arith, rules, FitsSigned}
use Rattle.std.proofs.lemmas.Int.{ints, to_z-of_z}
use Rattle.std.specs.Prelude.{pos, ◌+ℤ◌, ◌-ℤ◌, ◌*ℤ◌, unsigned_abs}
use mir.Syntax.{w64}
use Rattle.terrain_base.specs.Division.{floor_of}
use Rattle.bound_spheres.specs.Horizon.{polar_numerator}
use Rattle.bound_spheres.proofs.Scaling.{floor_from, unflattened_few, unflattened_is}
use Rattle.bound_spheres.proofs.scaled.unflattened.Goals as goal

pub overflow_add-result-2 : goal.overflow_add-result-2
overflow_add-result-2 c =
    let n = c.args.n in
    let more = n *ℤ pos (10 ^ 9) in
    let whole = c.div_euclid-whole.result in
    let left = more -ℤ (whole *ℤ pos 297257223563) in
    let last = c.div_euclid.result in
    let n_fits : FitsSigned w64 n = search rules in
    let more_fits : FitsSigned w64 more = omega (arith, ints, c.requires) in
    let whole_fits : FitsSigned w64 whole = search rules in
    let whole_floor = floor_from more whole 297257223563 (omega arith) (simp to_z-of_z at c.div_euclid-whole.ensures) in
    let back_fits : FitsSigned w64 (whole *ℤ pos 297257223563) = omega (arith, ints, c.requires, whole_floor.low, whole_floor.high) in
    let left_fits : FitsSigned w64 left = omega (arith, ints, whole_floor.low, whole_floor.high) in
    let scaled_fits : FitsSigned w64 (left *ℤ pos 1024) = omega (arith, ints, whole_floor.low, whole_floor.high) in
    let last_fits : FitsSigned w64 last = search rules in
    let last_floor = floor_from (left *ℤ pos 1024) last 297257223563 (omega arith) (simp to_z-of_z at c.div_euclid.ensures) in
    let sum_fits : FitsSigned w64 (n +ℤ whole) = omega (arith, ints, c.requires, whole_floor.low, whole_floor.high) in
    let sum_scaled : FitsSigned w64 ((n +ℤ whole) *ℤ pos 1024) = omega (arith, ints, c.requires, whole_floor.low, whole_floor.high) in
    let exact : ((n +ℤ whole) *ℤ pos 1024) +ℤ last ≡ floor_of (n *ℤ pos polar_numerator) (pos 297257223563) =
    unflattened_is n whole last whole_floor last_floor in
    let size : unsigned_abs (((n +ℤ whole) *ℤ pos 1024) +ℤ last) ≤ 2 ^ 44 = rw exact (unflattened_few n c.requires) in
    let fits : FitsSigned w64 (((n +ℤ whole) *ℤ pos 1024) +ℤ last) = omega (arith, ints, size) in
    simp to_z-of_z fits

pub returns : goal.returns
returns c =
    let n = c.args.n in
    let more = n *ℤ pos (10 ^ 9) in
    let whole = c.div_euclid-whole.result in
    let left = more -ℤ (whole *ℤ pos 297257223563) in
    let last = c.div_euclid.result in
    let n_fits : FitsSigned w64 n = search rules in
    let more_fits : FitsSigned w64 more = omega (arith, ints, c.requires) in
    let whole_fits : FitsSigned w64 whole = search rules in
    let whole_floor = floor_from more whole 297257223563 (omega arith) (simp to_z-of_z at c.div_euclid-whole.ensures) in
    let back_fits : FitsSigned w64 (whole *ℤ pos 297257223563) = omega (arith, ints, c.requires, whole_floor.low, whole_floor.high) in
    let left_fits : FitsSigned w64 left = omega (arith, ints, whole_floor.low, whole_floor.high) in
    let scaled_fits : FitsSigned w64 (left *ℤ pos 1024) = omega (arith, ints, whole_floor.low, whole_floor.high) in
    let last_fits : FitsSigned w64 last = search rules in
    let last_floor = floor_from (left *ℤ pos 1024) last 297257223563 (omega arith) (simp to_z-of_z at c.div_euclid.ensures) in
    let sum_fits : FitsSigned w64 (n +ℤ whole) = omega (arith, ints, c.requires, whole_floor.low, whole_floor.high) in
    let sum_scaled : FitsSigned w64 ((n +ℤ whole) *ℤ pos 1024) = omega (arith, ints, c.requires, whole_floor.low, whole_floor.high) in
    let exact : ((n +ℤ whole) *ℤ pos 1024) +ℤ last ≡ floor_of (n *ℤ pos polar_numerator) (pos 297257223563) =
    unflattened_is n whole last whole_floor last_floor in
    let size : unsigned_abs (((n +ℤ whole) *ℤ pos 1024) +ℤ last) ≤ 2 ^ 44 = rw exact (unflattened_few n c.requires) in
    let fits : FitsSigned w64 (((n +ℤ whole) *ℤ pos 1024) +ℤ last) = omega (arith, ints, size) in
    record { exact = simp to_z-of_z exact; size = simp to_z-of_z size }
