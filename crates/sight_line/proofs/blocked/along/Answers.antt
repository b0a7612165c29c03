-- Two products that fit, and their sum.
use Rattle.std.proofs.Common.{arith, FitsSigned, w64}
use Rattle.std.specs.Prelude.{◌+ℤ◌, ◌-ℤ◌, ◌*ℤ◌}
use Rattle.std.proofs.lemmas.Int.{to_z-of_z}
use Rattle.sight_line.proofs.Sizes.{fits_too, rest_fits, first_way, second_way, ways_sum}
use Rattle.sight_line.proofs.blocked.along.Goals as goal

pub overflow_add-result : goal.overflow_add-result
overflow_add-result c =
    let m = c.args.scale in let n = c.args.over in let x = c.args.from in let y = c.args.to in
    let fits_scale : FitsSigned w64 m = c.ranges.scale in let fits_over : FitsSigned w64 n = c.ranges.over in
    let fits_from : FitsSigned w64 x = c.ranges.from in let fits_to : FitsSigned w64 y = c.ranges.to in
    let a = first_way m n c.requires.low c.requires.high c.requires.scale x c.requires.from_low c.requires.from_high in
    let b = second_way m n c.requires.low c.requires.high c.requires.scale y c.requires.to_low c.requires.to_high in
    let rest : FitsSigned w64 (m -ℤ n) = rest_fits m n c.requires.low c.requires.high c.requires.scale in
    let first : FitsSigned w64 ((m -ℤ n) *ℤ x) = fits_too ((m -ℤ n) *ℤ x) (omega (arith, a)) in
    let second : FitsSigned w64 (n *ℤ y) = fits_too (n *ℤ y) (omega (arith, b)) in
    let both : FitsSigned w64 ((m -ℤ n) *ℤ x +ℤ n *ℤ y) = ways_sum ((m -ℤ n) *ℤ x) (n *ℤ y) a b in
    simp to_z-of_z both

pub returns : goal.returns
returns c =
    let m = c.args.scale in let n = c.args.over in let x = c.args.from in let y = c.args.to in
    let fits_scale : FitsSigned w64 m = c.ranges.scale in let fits_over : FitsSigned w64 n = c.ranges.over in
    let fits_from : FitsSigned w64 x = c.ranges.from in let fits_to : FitsSigned w64 y = c.ranges.to in
    let a = first_way m n c.requires.low c.requires.high c.requires.scale x c.requires.from_low c.requires.from_high in
    let b = second_way m n c.requires.low c.requires.high c.requires.scale y c.requires.to_low c.requires.to_high in
    let rest : FitsSigned w64 (m -ℤ n) = rest_fits m n c.requires.low c.requires.high c.requires.scale in
    let first : FitsSigned w64 ((m -ℤ n) *ℤ x) = fits_too ((m -ℤ n) *ℤ x) (omega (arith, a)) in
    let second : FitsSigned w64 (n *ℤ y) = fits_too (n *ℤ y) (omega (arith, b)) in
    let both : FitsSigned w64 ((m -ℤ n) *ℤ x +ℤ n *ℤ y) = ways_sum ((m -ℤ n) *ℤ x) (n *ℤ y) a b in
    simp to_z-of_z
