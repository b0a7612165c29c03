-- The sum and its shift fit.
use Rattle.std.proofs.Common.{arith, FitsSigned, w64, unsigned_abs}
use Rattle.std.proofs.lemmas.Int.{ints, to_z-of_z}
use Rattle.mesh_check.proofs.KeyBits.{shifted}
use Rattle.mesh_check.proofs.rank.key.Goals as goal

pub overflow_add-result : goal.overflow_add-result
overflow_add-result c = omega (
  arith,
  ints,
  c.across-low.ensures.low,
  c.across-low.ensures.high,
  c.across-high.ensures.low,
  c.across-high.ensures.high,
)

pub returns : goal.returns
returns c =
    let low_across_fits : FitsSigned w64 c.across-low.result = omega (
      arith,
      ints,
      c.across-low.ensures.low,
      c.across-low.ensures.high,
    ) in
    let high_across_fits : FitsSigned w64 c.across-high.result = omega (
      arith,
      ints,
      c.across-high.ensures.low,
      c.across-high.ensures.high,
    ) in
    let rise_fits : FitsSigned w64 c.rise-rise.result = omega (
      arith,
      ints,
      c.rise-rise.ensures.low,
      c.rise-rise.ensures.high,
    ) in
    let low_level_fits : FitsSigned w64 c.args.slab.now.low = omega (arith, ints, c.requires.slab) in
    let high_level_fits : FitsSigned w64 c.args.slab.now.high = omega (arith, ints, c.requires.slab) in
    let low_across_value = simp to_z-of_z at c.across-low.ensures.value in
    let high_across_value = simp to_z-of_z at c.across-high.ensures.value in
    let k = shifted c.across-low.result c.across-high.result (unsigned_abs c.rise-rise.result) c.across-low.ensures.low
    c.across-low.ensures.high c.across-high.ensures.low c.across-high.ensures.high in
    simp to_z-of_z (cc (k, low_across_value, high_across_value, c.rise-rise.ensures.value))
