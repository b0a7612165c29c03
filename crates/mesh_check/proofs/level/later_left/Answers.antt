-- By the sign of the lead.
use Rattle.std.proofs.Common.{arith, FitsSigned, w64, subst}
use Rattle.std.specs.Prelude.{ℤ, pos, ◌≤ℤ◌}
use Rattle.std.proofs.lemmas.Int.{ints, to_z-of_z}
use Rattle.mesh_check.specs.Level.{east_by}
use Rattle.mesh_check.proofs.LevelRows.{back}
use Rattle.mesh_check.proofs.LevelWalk.{is_most, later_lower, later_upper}
use Rattle.mesh_check.proofs.level.later_left.Goals as goal

pub returns-then-ahead-ge0 : goal.returns-then-ahead-ge0
returns-then-ahead-ge0 c =
    let range = c.ranges.v in
    let v = c.args.v in let m = c.args.lower.now in let n = c.args.upper.now in
    let fits_ahead : FitsSigned w64 c.ahead.result = omega (arith, ints, c.ahead.ensures.size) in
    let ahead_is = simp to_z-of_z at c.ahead.ensures.value in
    let ahead = simp to_z-of_z at c.if-ahead-ge0.true in
    later_upper v m n c.requires (subst (λ (z : ℤ). pos 0 ≤ℤ z) ahead_is (is_most (pos 0) c.ahead.result ahead))

pub returns-else-ahead-ge0 : goal.returns-else-ahead-ge0
returns-else-ahead-ge0 c =
    let range = c.ranges.v in
    let v = c.args.v in let m = c.args.lower.now in let n = c.args.upper.now in
    let fits_ahead : FitsSigned w64 c.ahead.result = omega (arith, ints, c.ahead.ensures.size) in
    let ahead_is = simp to_z-of_z at c.ahead.ensures.value in
    let behind : c.ahead.result ≤ℤ pos 0 = omega (arith, ints, simp to_z-of_z at c.if-ahead-ge0.false) in
    let not_west : east_by v m.left n.left ≤ℤ pos 0 = subst (λ (z : ℤ). z ≤ℤ pos 0) ahead_is behind in
    later_lower v m n c.requires (omega (arith, ints, back v m.left n.left, not_west))
