-- Both products have at most 45 bits.
use Rattle.std.proofs.Common.{arith, FitsSigned, w64}
use Rattle.std.specs.Prelude.{◌*ℤ◌, ◌-ℤ◌}
use Rattle.std.proofs.lemmas.Int.{ints, to_z-of_z}
use Rattle.mesh_check.proofs.LevelHeights.{product_size}
use Rattle.mesh_check.proofs.level.ahead.Goals as goal

pub overflow_mul-result : goal.overflow_mul-result
overflow_mul-result c =
    let a = c.across.result in let b = c.rise.result in let p = c.across.ensures in let q = c.rise.ensures in
    let fits_across : FitsSigned w64 a = omega (arith, ints, p.low, p.high) in
    let fits_rise : FitsSigned w64 b = omega (arith, ints, q.low, q.high) in
    simp to_z-of_z (omega (arith, ints, product_size a b p.low p.high q.low q.high))

pub overflow_mul-result-2 : goal.overflow_mul-result-2
overflow_mul-result-2 c =
    let a = c.across-2.result in let b = c.rise-2.result in
    let p = c.across-2.ensures in let q = c.rise-2.ensures in
    let fits_across : FitsSigned w64 a = omega (arith, ints, p.low, p.high) in
    let fits_rise : FitsSigned w64 b = omega (arith, ints, q.low, q.high) in
    simp to_z-of_z (omega (arith, ints, product_size a b p.low p.high q.low q.high))

pub overflow_sub-result : goal.overflow_sub-result
overflow_sub-result c =
    let a = c.across.result in let b = c.rise.result in let p = c.across.ensures in let q = c.rise.ensures in
    let a' = c.across-2.result in let b' = c.rise-2.result in
    let p' = c.across-2.ensures in let q' = c.rise-2.ensures in
    let fits_east : FitsSigned w64 a = omega (arith, ints, p.low, p.high) in
    let fits_east_rise : FitsSigned w64 b = omega (arith, ints, q.low, q.high) in
    let fits_west : FitsSigned w64 a' = omega (arith, ints, p'.low, p'.high) in
    let fits_west_rise : FitsSigned w64 b' = omega (arith, ints, q'.low, q'.high) in
    let east = product_size a b p.low p.high q.low q.high in
    let west = product_size a' b' p'.low p'.high q'.low q'.high in
    let fits_product : FitsSigned w64 (a *ℤ b) = omega (arith, ints, east) in
    let fits_other : FitsSigned w64 (a' *ℤ b') = omega (arith, ints, west) in
    simp to_z-of_z (omega (arith, ints, east, west))

pub returns-clause-value : goal.returns-clause-value
returns-clause-value c =
    let a = c.across.result in let b = c.rise.result in let p = c.across.ensures in let q = c.rise.ensures in
    let a' = c.across-2.result in let b' = c.rise-2.result in
    let p' = c.across-2.ensures in let q' = c.rise-2.ensures in
    let fits_east : FitsSigned w64 a = omega (arith, ints, p.low, p.high) in
    let fits_east_rise : FitsSigned w64 b = omega (arith, ints, q.low, q.high) in
    let fits_west : FitsSigned w64 a' = omega (arith, ints, p'.low, p'.high) in
    let fits_west_rise : FitsSigned w64 b' = omega (arith, ints, q'.low, q'.high) in
    let east = product_size a b p.low p.high q.low q.high in
    let west = product_size a' b' p'.low p'.high q'.low q'.high in
    let fits_product : FitsSigned w64 (a *ℤ b) = omega (arith, ints, east) in
    let fits_other : FitsSigned w64 (a' *ℤ b') = omega (arith, ints, west) in
    let fits_difference : FitsSigned w64 (a *ℤ b -ℤ a' *ℤ b') = omega (arith, ints, east, west) in
    let range = c.ranges.v in
    let east_is = simp to_z-of_z at p.value in
    let west_is = simp to_z-of_z at p'.value in
    simp to_z-of_z (cc (east_is, west_is, q.value, q'.value))

pub returns-clause-size : goal.returns-clause-size
returns-clause-size c =
    let a = c.across.result in let b = c.rise.result in let p = c.across.ensures in let q = c.rise.ensures in
    let a' = c.across-2.result in let b' = c.rise-2.result in
    let p' = c.across-2.ensures in let q' = c.rise-2.ensures in
    let fits_east : FitsSigned w64 a = omega (arith, ints, p.low, p.high) in
    let fits_east_rise : FitsSigned w64 b = omega (arith, ints, q.low, q.high) in
    let fits_west : FitsSigned w64 a' = omega (arith, ints, p'.low, p'.high) in
    let fits_west_rise : FitsSigned w64 b' = omega (arith, ints, q'.low, q'.high) in
    let east = product_size a b p.low p.high q.low q.high in
    let west = product_size a' b' p'.low p'.high q'.low q'.high in
    let fits_product : FitsSigned w64 (a *ℤ b) = omega (arith, ints, east) in
    let fits_other : FitsSigned w64 (a' *ℤ b') = omega (arith, ints, west) in
    let fits_difference : FitsSigned w64 (a *ℤ b -ℤ a' *ℤ b') = omega (arith, ints, east, west) in
    simp to_z-of_z (omega (arith, ints, east, west))
