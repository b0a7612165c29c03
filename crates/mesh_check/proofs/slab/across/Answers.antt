-- Both products fit, and so does their sum.
use Rattle.std.proofs.Common.{arith, FitsSigned, w64}
use Rattle.std.specs.Prelude.{◌+ℤ◌, ◌-ℤ◌}
use Rattle.std.proofs.lemmas.Int.{ints, to_z-of_z}
use Rattle.mesh_check.proofs.Bits.{at_most}
use Rattle.mesh_check.proofs.slab.across.Goals as goal

pub product-high-requires-clause-b_low : goal.product-high-requires-clause-b_low
product-high-requires-clause-b_low c = omega (arith, ints, c.requires.segment, c.requires.low, c.requires.high)

pub product-high-requires-clause-b_high : goal.product-high-requires-clause-b_high
product-high-requires-clause-b_high c = omega (arith, ints, c.requires.segment, c.requires.low, c.requires.high)

pub overflow_add-result : goal.overflow_add-result
overflow_add-result c = omega (
  arith,
  ints,
  c.product-low.ensures.low,
  c.product-low.ensures.high,
  c.product-high.ensures.low,
  c.product-high.ensures.high,
)

pub returns-clause-value : goal.returns-clause-value
returns-clause-value c =
    let g = c.args.segment.now in let r = c.ranges.v in
    let low_u_fits : FitsSigned w64 g.low.u = omega (arith, ints, c.requires.segment) in
    let high_u_fits : FitsSigned w64 g.high.u = omega (arith, ints, c.requires.segment) in
    let low_v_fits : FitsSigned w64 g.low.v = omega (arith, ints, c.requires.segment) in
    let high_v_fits : FitsSigned w64 g.high.v = omega (arith, ints, c.requires.segment) in
    let above_level_fits : FitsSigned w64 (g.high.v -ℤ c.args.v) = omega (
      arith,
      ints,
      c.requires.segment,
      c.requires.low,
      c.requires.high,
    ) in
    let below_level_fits : FitsSigned w64 (c.args.v -ℤ g.low.v) = omega (
      arith,
      ints,
      c.requires.segment,
      c.requires.low,
      c.requires.high,
    ) in
    let low_product_fits : FitsSigned w64 c.product-low.result = omega (
      arith,
      ints,
      c.product-low.ensures.low,
      c.product-low.ensures.high,
    ) in
    let high_product_fits : FitsSigned w64 c.product-high.result = omega (
      arith,
      ints,
      c.product-high.ensures.low,
      c.product-high.ensures.high,
    ) in
    let s : FitsSigned w64 (c.product-low.result +ℤ c.product-high.result) =
    omega (
      arith,
      ints,
      c.product-low.ensures.low,
      c.product-low.ensures.high,
      c.product-high.ensures.low,
      c.product-high.ensures.high,
    ) in
    let low_product_value = simp to_z-of_z at c.product-low.ensures.value in
    let high_product_value = simp to_z-of_z at c.product-high.ensures.value in
    simp to_z-of_z (cc (low_product_value, high_product_value))

pub returns-clause-low : goal.returns-clause-low
returns-clause-low c =
    omega (
      arith,
      ints,
      c.product-low.ensures.low,
      c.product-low.ensures.high,
      c.product-high.ensures.low,
      c.product-high.ensures.high,
    )

pub returns-clause-high : goal.returns-clause-high
returns-clause-high c =
    let g = c.args.segment.now in let r = c.ranges.v in
    let low_u_fits : FitsSigned w64 g.low.u = omega (arith, ints, c.requires.segment) in
    let high_u_fits : FitsSigned w64 g.high.u = omega (arith, ints, c.requires.segment) in
    let low_v_fits : FitsSigned w64 g.low.v = omega (arith, ints, c.requires.segment) in
    let high_v_fits : FitsSigned w64 g.high.v = omega (arith, ints, c.requires.segment) in
    let above_level_fits : FitsSigned w64 (g.high.v -ℤ c.args.v) = omega (
      arith,
      ints,
      c.requires.segment,
      c.requires.low,
      c.requires.high,
    ) in
    let below_level_fits : FitsSigned w64 (c.args.v -ℤ g.low.v) = omega (
      arith,
      ints,
      c.requires.segment,
      c.requires.low,
      c.requires.high,
    ) in
    let low_product_value = simp to_z-of_z at c.product-low.ensures.value in
    let high_product_value = simp to_z-of_z at c.product-high.ensures.value in
    omega (
      arith,
      ints,
      low_product_value,
      high_product_value,
      c.product-low.ensures.low,
      c.product-high.ensures.low,
      c.product-low.ensures.high,
      c.product-high.ensures.high,
      c.requires.segment,
      at_most g.low.u (g.high.v -ℤ c.args.v) (omega (arith, ints, c.requires.segment)) (omega (
        arith,
        ints,
        c.requires.high,
      )),
      at_most g.high.u (c.args.v -ℤ g.low.v) (omega (arith, ints, c.requires.segment)) (omega (
        arith,
        ints,
        c.requires.low,
      )),
    )
