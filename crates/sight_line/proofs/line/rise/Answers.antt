-- Two products that fit, and their sum.
use Rattle.std.proofs.Common.{arith, FitsSigned, w32, ◌≡◌}
use Rattle.std.specs.Prelude.{◌+ℤ◌, ◌-ℤ◌, ◌*ℤ◌}
use Rattle.std.specs.Int.{w128}
use Rattle.std.proofs.lemmas.Int.{ints, to_z-of_z}
use Rattle.sight_line.proofs.Sizes.{fits, rest, over, under, first_part, second_part, both_parts}
use Rattle.sight_line.proofs.line.rise.Goals as goal

pub overflow_mul-result : goal.overflow_mul-result
overflow_mul-result c =
    let k = c.args.at in let a = c.args.line.now.start in let b = c.args.line.now.end in
    let f = c.requires.fraction in let s = c.requires.small in
    let ha = c.requires.line.start in let hb = c.requires.line.end in
    let narrow_start : FitsSigned w32 a = omega (arith, ints, ha) in
    let narrow_end : FitsSigned w32 b = omega (arith, ints, hb) in
    let wide_start : FitsSigned w128 a = omega (arith, ints, ha) in
    let wide_end : FitsSigned w128 b = omega (arith, ints, hb) in
    let wide_under : FitsSigned w128 k.under = fits k.under (omega (arith, under k f s)) in
    let wide_over : FitsSigned w128 k.over = fits k.over (omega (arith, over k f s)) in
    let wide_rest : FitsSigned w128 (k.under -ℤ k.over) = fits (k.under -ℤ k.over) (omega (arith, rest k f s)) in
    let first : FitsSigned w128 ((k.under -ℤ k.over) *ℤ a) =
    fits ((k.under -ℤ k.over) *ℤ a) (omega (arith, first_part k f s a b ha hb)) in
    let second : FitsSigned w128 (k.over *ℤ b) = fits (k.over *ℤ b) (omega (arith, second_part k f s a b ha hb)) in
    let start_is : c.from.result ≡ a = simp to_z-of_z at c.from.ensures in
    simp (start_is, to_z-of_z) first

pub overflow_mul-result-2 : goal.overflow_mul-result-2
overflow_mul-result-2 c =
    let k = c.args.at in let a = c.args.line.now.start in let b = c.args.line.now.end in
    let f = c.requires.fraction in let s = c.requires.small in
    let ha = c.requires.line.start in let hb = c.requires.line.end in
    let narrow_start : FitsSigned w32 a = omega (arith, ints, ha) in
    let narrow_end : FitsSigned w32 b = omega (arith, ints, hb) in
    let wide_start : FitsSigned w128 a = omega (arith, ints, ha) in
    let wide_end : FitsSigned w128 b = omega (arith, ints, hb) in
    let wide_under : FitsSigned w128 k.under = fits k.under (omega (arith, under k f s)) in
    let wide_over : FitsSigned w128 k.over = fits k.over (omega (arith, over k f s)) in
    let wide_rest : FitsSigned w128 (k.under -ℤ k.over) = fits (k.under -ℤ k.over) (omega (arith, rest k f s)) in
    let first : FitsSigned w128 ((k.under -ℤ k.over) *ℤ a) =
    fits ((k.under -ℤ k.over) *ℤ a) (omega (arith, first_part k f s a b ha hb)) in
    let second : FitsSigned w128 (k.over *ℤ b) = fits (k.over *ℤ b) (omega (arith, second_part k f s a b ha hb)) in
    let start_is : c.from.result ≡ a = simp to_z-of_z at c.from.ensures in
    let end_is : c.from-2.result ≡ b = simp to_z-of_z at c.from-2.ensures in
    simp (end_is, to_z-of_z) second

pub overflow_add-result : goal.overflow_add-result
overflow_add-result c =
    let k = c.args.at in let a = c.args.line.now.start in let b = c.args.line.now.end in
    let f = c.requires.fraction in let s = c.requires.small in
    let ha = c.requires.line.start in let hb = c.requires.line.end in
    let narrow_start : FitsSigned w32 a = omega (arith, ints, ha) in
    let narrow_end : FitsSigned w32 b = omega (arith, ints, hb) in
    let wide_start : FitsSigned w128 a = omega (arith, ints, ha) in
    let wide_end : FitsSigned w128 b = omega (arith, ints, hb) in
    let wide_under : FitsSigned w128 k.under = fits k.under (omega (arith, under k f s)) in
    let wide_over : FitsSigned w128 k.over = fits k.over (omega (arith, over k f s)) in
    let wide_rest : FitsSigned w128 (k.under -ℤ k.over) = fits (k.under -ℤ k.over) (omega (arith, rest k f s)) in
    let first : FitsSigned w128 ((k.under -ℤ k.over) *ℤ a) =
    fits ((k.under -ℤ k.over) *ℤ a) (omega (arith, first_part k f s a b ha hb)) in
    let second : FitsSigned w128 (k.over *ℤ b) = fits (k.over *ℤ b) (omega (arith, second_part k f s a b ha hb)) in
    let both : FitsSigned w128 ((k.under -ℤ k.over) *ℤ a +ℤ k.over *ℤ b) =
    fits ((k.under -ℤ k.over) *ℤ a +ℤ k.over *ℤ b) (omega (arith, both_parts k f s a b ha hb)) in
    let start_is : c.from.result ≡ a = simp to_z-of_z at c.from.ensures in
    let end_is : c.from-2.result ≡ b = simp to_z-of_z at c.from-2.ensures in
    simp (start_is, end_is, to_z-of_z) both

pub returns-clause-value : goal.returns-clause-value
returns-clause-value c =
    let k = c.args.at in let a = c.args.line.now.start in let b = c.args.line.now.end in
    let f = c.requires.fraction in let s = c.requires.small in
    let ha = c.requires.line.start in let hb = c.requires.line.end in
    let narrow_start : FitsSigned w32 a = omega (arith, ints, ha) in
    let narrow_end : FitsSigned w32 b = omega (arith, ints, hb) in
    let wide_start : FitsSigned w128 a = omega (arith, ints, ha) in
    let wide_end : FitsSigned w128 b = omega (arith, ints, hb) in
    let wide_under : FitsSigned w128 k.under = fits k.under (omega (arith, under k f s)) in
    let wide_over : FitsSigned w128 k.over = fits k.over (omega (arith, over k f s)) in
    let wide_rest : FitsSigned w128 (k.under -ℤ k.over) = fits (k.under -ℤ k.over) (omega (arith, rest k f s)) in
    let first : FitsSigned w128 ((k.under -ℤ k.over) *ℤ a) =
    fits ((k.under -ℤ k.over) *ℤ a) (omega (arith, first_part k f s a b ha hb)) in
    let second : FitsSigned w128 (k.over *ℤ b) = fits (k.over *ℤ b) (omega (arith, second_part k f s a b ha hb)) in
    let both : FitsSigned w128 ((k.under -ℤ k.over) *ℤ a +ℤ k.over *ℤ b) =
    fits ((k.under -ℤ k.over) *ℤ a +ℤ k.over *ℤ b) (omega (arith, both_parts k f s a b ha hb)) in
    let start_is : c.from.result ≡ a = simp to_z-of_z at c.from.ensures in
    let end_is : c.from-2.result ≡ b = simp to_z-of_z at c.from-2.ensures in
    simp (start_is, end_is, to_z-of_z)

pub returns-clause-size : goal.returns-clause-size
returns-clause-size c =
    let k = c.args.at in let a = c.args.line.now.start in let b = c.args.line.now.end in
    let f = c.requires.fraction in let s = c.requires.small in
    let ha = c.requires.line.start in let hb = c.requires.line.end in
    let narrow_start : FitsSigned w32 a = omega (arith, ints, ha) in
    let narrow_end : FitsSigned w32 b = omega (arith, ints, hb) in
    let wide_start : FitsSigned w128 a = omega (arith, ints, ha) in
    let wide_end : FitsSigned w128 b = omega (arith, ints, hb) in
    let wide_under : FitsSigned w128 k.under = fits k.under (omega (arith, under k f s)) in
    let wide_over : FitsSigned w128 k.over = fits k.over (omega (arith, over k f s)) in
    let wide_rest : FitsSigned w128 (k.under -ℤ k.over) = fits (k.under -ℤ k.over) (omega (arith, rest k f s)) in
    let first : FitsSigned w128 ((k.under -ℤ k.over) *ℤ a) =
    fits ((k.under -ℤ k.over) *ℤ a) (omega (arith, first_part k f s a b ha hb)) in
    let second : FitsSigned w128 (k.over *ℤ b) = fits (k.over *ℤ b) (omega (arith, second_part k f s a b ha hb)) in
    let both : FitsSigned w128 ((k.under -ℤ k.over) *ℤ a +ℤ k.over *ℤ b) =
    fits ((k.under -ℤ k.over) *ℤ a +ℤ k.over *ℤ b) (omega (arith, both_parts k f s a b ha hb)) in
    let start_is : c.from.result ≡ a = simp to_z-of_z at c.from.ensures in
    let end_is : c.from-2.result ≡ b = simp to_z-of_z at c.from-2.ensures in
    simp (start_is, end_is, to_z-of_z) (both_parts k f s a b ha hb)
