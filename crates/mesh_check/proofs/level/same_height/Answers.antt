-- Both products have at most 107 bits.
use Rattle.std.proofs.Common.{◌≡◌, arith, lit<, FitsSigned, sym, ◌∙◌}
use Rattle.std.specs.Int.{w128}
use Rattle.std.specs.Prelude.{◌*ℤ◌}
use Rattle.std.proofs.lemmas.Int.{ints, to_z-of_z, fits_signed_mul}
use Rattle.polynomial.proofs.Signs.{times_nonneg}
use Rattle.mesh_plane.specs.Surface.{lift_of, gap_under}
use Rattle.mesh_check.specs.Slab.{under, over}
use Rattle.mesh_check.proofs.LevelHeights.{same_wide, same_gaps}
use Rattle.mesh_check.proofs.level.same_height.Goals as goal

pub returns : goal.returns
returns c =
    let one = c.height_at-first.result in let other = c.height_at-second.result in
    let p = c.height_at-first.ensures in let q = c.height_at-second.ensures in
    let range = c.ranges.v in
    let fits_over : FitsSigned w128 one.over = omega (arith, ints, p.low, p.high) in
    let fits_under : FitsSigned w128 one.under = omega (arith, ints, p.least, p.greatest) in
    let fits_other_over : FitsSigned w128 other.over = omega (arith, ints, q.low, q.high) in
    let fits_other_under : FitsSigned w128 other.under = omega (arith, ints, q.least, q.greatest) in
    let fits_left : FitsSigned w128 (one.over *ℤ other.under) =
    fits_signed_mul w128 one.over other.under 2305843009213693952 70368744177664 (omega (arith, ints, p.low, p.high))
    (omega (arith, ints, q.least, q.greatest)) (lit< tt) in
    let fits_right : FitsSigned w128 (other.over *ℤ one.under) =
    fits_signed_mul w128 other.over one.under 2305843009213693952 70368744177664 (omega (arith, ints, q.low, q.high))
    (omega (arith, ints, p.least, p.greatest)) (lit< tt) in
    let over_is = simp to_z-of_z at p.over in
    let other_over_is = simp to_z-of_z at q.over in
    let g = c.args.end.now in let t = c.args.first.now in let u = c.args.second.now in let v = c.args.v in
    let l : one.over *ℤ other.under ≡ lift_of t (under g) (over g v) (under g *ℤ v) *ℤ gap_under u (under g) =
    cc (over_is, q.under) in
    let m : other.over *ℤ one.under ≡ lift_of u (under g) (over g v) (under g *ℤ v) *ℤ gap_under t (under g) =
    cc (other_over_is, p.under) in
    let bits = same_wide (one.over *ℤ other.under) (other.over *ℤ one.under)
    (times_nonneg one.over other.under p.low (omega (arith, ints, q.least)))
    (times_nonneg other.over one.under q.low (omega (arith, ints, p.least))) in
    let same = same_gaps g v c.requires.end t u in
    simp to_z-of_z ((λ h. same.0 (sym l ∙ bits.0 h ∙ m)), (λ h. bits.1 (l ∙ same.1 h ∙ sym m)))
