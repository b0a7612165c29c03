-- Equal products of 64 bits.
use Rattle.std.proofs.Common.{arith, FitsSigned, w64, ◌≡◌, sym, ◌∙◌}
use Rattle.std.specs.Prelude.{◌*ℤ◌}
use Rattle.std.proofs.lemmas.Int.{ints, to_z-of_z}
use Rattle.mesh_check.specs.Slab.{over, under}
use Rattle.mesh_check.proofs.Bits.{same_bits}
use Rattle.mesh_check.proofs.slab.same_at.Goals as goal

pub product-requires-2-clause-b_low : goal.product-requires-2-clause-b_low
product-requires-2-clause-b_low c = omega (arith, ints, c.rise-2.ensures.low, c.rise-2.ensures.high)

pub returns : goal.returns
returns c =
    let r = c.ranges.v in
    let across_a_fits : FitsSigned w64 c.across.result =
    omega (arith, ints, c.across.ensures.low, c.across.ensures.high) in
    let across_b_fits : FitsSigned w64 c.across-2.result =
    omega (arith, ints, c.across-2.ensures.low, c.across-2.ensures.high) in
    let rise_b_fits : FitsSigned w64 c.rise.result = omega (arith, ints, c.rise.ensures.low, c.rise.ensures.high) in
    let rise_a_fits : FitsSigned w64 c.rise-2.result =
    omega (arith, ints, c.rise-2.ensures.low, c.rise-2.ensures.high) in
    let across_a_value = simp to_z-of_z at c.across.ensures.value in
    let across_b_value = simp to_z-of_z at c.across-2.ensures.value in
    let first_product_value = simp to_z-of_z at c.product.ensures.value in
    let second_product_value = simp to_z-of_z at c.product-2.ensures.value in
    let l : c.product.result ≡ over c.args.a.now c.args.v *ℤ under c.args.b.now =
    cc (across_a_value, first_product_value, c.rise.ensures.value) in
    let m : c.product-2.result ≡ over c.args.b.now c.args.v *ℤ under c.args.a.now =
    cc (across_b_value, second_product_value, c.rise-2.ensures.value) in
    let s = same_bits c.product.result c.product-2.result c.product.ensures.low c.product-2.ensures.low in
    ((λ h. sym l ∙ s.0 h ∙ m), (λ h. s.1 (l ∙ h ∙ sym m)))
