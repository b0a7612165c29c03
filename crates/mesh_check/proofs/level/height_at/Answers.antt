-- The height of a triangle at an end on a level fits.
use Rattle.std.proofs.Common.{◌≡◌, arith, lit<, FitsSigned, w64, subst, sym}
use Rattle.std.specs.Prelude.{ℤ, pos, ◌*ℤ◌, ◌≤ℤ◌}
use Rattle.std.proofs.lemmas.Int.{ints, to_z-of_z, fits_signed_mul}
use Rattle.mesh_plane.specs.Plane.{IsTilePoint}
use Rattle.mesh_plane.specs.Surface.{gap_under}
use Rattle.mesh_check.specs.Slab.{under}
use Rattle.mesh_check.proofs.LevelHeights.{end_point, lift_low, lift_most, gap_high}
use Rattle.mesh_check.proofs.level.height_at.Goals as goal

pub overflow_mul-scale : goal.overflow_mul-scale
overflow_mul-scale c =
    let range = c.ranges.v in
    let fits_rise : FitsSigned w64 c.rise-scale.result = omega
    (arith, ints, c.rise-scale.ensures.low, c.rise-scale.ensures.high) in
    simp to_z-of_z
    (fits_signed_mul w64 c.rise-scale.result c.args.v 32767 32767
    (omega (arith, ints, c.rise-scale.ensures.low, c.rise-scale.ensures.high))
    (omega (arith, ints, c.requires.end)) (lit< tt))

pub plane_height-requires-clause-point : goal.plane_height-requires-clause-point
plane_height-requires-clause-point c =
    let range = c.ranges.v in
    let fits_rise : FitsSigned w64 c.rise-scale.result = omega
    (arith, ints, c.rise-scale.ensures.low, c.rise-scale.ensures.high) in
    let fits_across : FitsSigned w64 c.across.result = omega
    (arith, ints, c.across.ensures.low, c.across.ensures.high) in
    let fits_product : FitsSigned w64 (c.rise-scale.result *ℤ c.args.v) =
    fits_signed_mul w64 c.rise-scale.result c.args.v 32767 32767
    (omega (arith, ints, c.rise-scale.ensures.low, c.rise-scale.ensures.high))
    (omega (arith, ints, c.requires.end)) (lit< tt) in
    let across_is = simp to_z-of_z at c.across.ensures.value in
    simp to_z-of_z
    (subst (λ (s : ℤ). IsTilePoint s c.across.result (s *ℤ c.args.v)) (sym c.rise-scale.ensures.value)
    (subst (λ (x : ℤ). IsTilePoint (under c.args.end.now) x (under c.args.end.now *ℤ c.args.v)) (sym across_is)
    (end_point c.args.end.now c.args.v c.requires.end)))

pub returns-clause-over : goal.returns-clause-over
returns-clause-over c =
    let range = c.ranges.v in
    let fits_rise : FitsSigned w64 c.rise-scale.result = omega
    (arith, ints, c.rise-scale.ensures.low, c.rise-scale.ensures.high) in
    let fits_across : FitsSigned w64 c.across.result = omega
    (arith, ints, c.across.ensures.low, c.across.ensures.high) in
    let fits_product : FitsSigned w64 (c.rise-scale.result *ℤ c.args.v) =
    fits_signed_mul w64 c.rise-scale.result c.args.v 32767 32767
    (omega (arith, ints, c.rise-scale.ensures.low, c.rise-scale.ensures.high))
    (omega (arith, ints, c.requires.end)) (lit< tt) in
    let across_is = simp to_z-of_z at c.across.ensures.value in
    let height_is = simp to_z-of_z at c.plane_height.ensures.over in
    cc (across_is, height_is, c.rise-scale.ensures.value)

pub returns-clause-low : goal.returns-clause-low
returns-clause-low c =
    subst (λ (n : ℤ). pos 0 ≤ℤ n) (sym (returns-clause-over c))
    (lift_low c.args.end.now c.args.v c.requires.end c.args.tri.now c.requires.tri c.requires.holds)

pub returns-clause-high : goal.returns-clause-high
returns-clause-high c =
    subst (λ (n : ℤ). n ≤ℤ pos 2305843009213693952) (sym (returns-clause-over c))
    (lift_most c.args.end.now c.args.v c.requires.end c.args.tri.now c.requires.tri c.requires.holds)

pub returns-clause-greatest : goal.returns-clause-greatest
returns-clause-greatest c =
    let fits_rise : FitsSigned w64 c.rise-scale.result = omega
    (arith, ints, c.rise-scale.ensures.low, c.rise-scale.ensures.high) in
    let across_is = simp to_z-of_z at c.plane_height.ensures.under in
    let e : c.plane_height.result.under ≡ gap_under c.args.tri.now (under c.args.end.now) = cc
    (across_is, c.rise-scale.ensures.value) in
    subst (λ (n : ℤ). n ≤ℤ pos 70368744177664) (sym e)
    (gap_high c.args.end.now c.args.v c.requires.end c.args.tri.now c.requires.tri c.requires.holds)
