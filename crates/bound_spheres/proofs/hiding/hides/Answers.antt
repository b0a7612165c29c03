use Rattle.std.proofs.Common.{◌≡◌, ◌+◌, ◌≤◌, ◌^◌, rules, FitsSigned}
use Rattle.std.proofs.lemmas.Int.{to_z-of_z}
use Rattle.std.specs.Prelude.{pos, ◌≤ℤ◌, ◌<ℤ◌, unsigned_abs}
use mir.Syntax.{w64}
use Rattle.bound_spheres.specs.Horizon.{reach}
use Rattle.bound_spheres.proofs.Horizons.{both_small, cross_fits, far_centre, far_corner, is_less, is_not_less, near_test, not_above}
use Rattle.bound_spheres.proofs.hiding.hides.Goals.{then-corner-gt-NEAR-via-then-corner-gt-NEAR, then-corner-gt-NEAR-via-else-corner-gt-NEAR+then-centre-gt-NEAR}
use Rattle.bound_spheres.proofs.hiding.hides.Goals as goal

pub returns-then-corner-gt-NEAR : goal.returns-then-corner-gt-NEAR
returns-then-corner-gt-NEAR c =
    let corner : FitsSigned w64 c.inner-corner.result = search rules in
    let centre : FitsSigned w64 c.inner-centre.result = search rules in
    elim c.then-corner-gt-NEAR.branch [
      | then-corner-gt-NEAR-via-then-corner-gt-NEAR w ↦
          let more : pos (2 ^ 36 + 2 ^ 29) <ℤ c.inner-corner.result = is_less _ _ (simp to_z-of_z at w.if-corner-gt-NEAR.true) in
          far_corner c.args.c.now c.args.p.now c.args.m (rw c.inner-corner.ensures at more)
      | then-corner-gt-NEAR-via-else-corner-gt-NEAR+then-centre-gt-NEAR w ↦
          let more : pos (2 ^ 36 + 2 ^ 29) <ℤ c.inner-centre.result = is_less _ _ (simp to_z-of_z at w.if-centre-gt-NEAR.true) in
          far_centre c.args.c.now c.args.p.now c.args.m (rw c.inner-centre.ensures at more)
    ]

pub over-w-requires-clause-both : goal.over-w-requires-clause-both
over-w-requires-clause-both c =
    let corner : FitsSigned w64 c.inner-corner.result = search rules in
    let centre : FitsSigned w64 c.inner-centre.result = search rules in
    let both : FitsSigned w64 c.inner-both.result = search rules in
    let near : c.inner-corner.result ≤ℤ pos (2 ^ 36 + 2 ^ 29) = is_not_less _ _ (simp to_z-of_z at c.if-corner-gt-NEAR.false) in
    let close : c.inner-centre.result ≤ℤ pos (2 ^ 36 + 2 ^ 29) = is_not_less _ _ (simp to_z-of_z at c.if-centre-gt-NEAR.false) in
    let small : unsigned_abs c.inner-both.result ≤ 2 ^ 37 = rw c.inner-both.ensures
    (both_small c.args.c.now c.args.p.now (rw c.inner-centre.ensures at close) (rw c.inner-corner.ensures at near)) in
    simp to_z-of_z small

pub returns-then-w-lt0 : goal.returns-then-w-lt0
returns-then-w-lt0 c =
    let corner : FitsSigned w64 c.inner-corner.result = search rules in
    let both : FitsSigned w64 c.inner-both.result = search rules in
    let w : FitsSigned w64 c.over-w.result = search rules in
    let exact = simp to_z-of_z at c.over-w.ensures.exact in
    let less : c.over-w.result <ℤ pos 0 = is_less _ _ (simp to_z-of_z at c.if-w-lt0.true) in
    not_above c.args.c.now c.args.p.now c.args.m (rw (exact, c.inner-both.ensures, c.inner-corner.ensures) at less)

pub across-across-requires-clause-both : goal.across-across-requires-clause-both
across-across-requires-clause-both c =
    let corner : FitsSigned w64 c.inner-corner.result = search rules in
    let centre : FitsSigned w64 c.inner-centre.result = search rules in
    let both : FitsSigned w64 c.inner-both.result = search rules in
    let a = simp to_z-of_z at c.unsigned_abs.ensures.value in
    let b = simp to_z-of_z at c.unsigned_abs-2.ensures.value in
    let d = simp to_z-of_z at c.unsigned_abs-3.ensures.value in
    rw (a, b, d, c.inner-corner.ensures, c.inner-centre.ensures, c.inner-both.ensures) (cross_fits c.args.c.now c.args.p.now)

pub returns : goal.returns
returns c =
    let corner : FitsSigned w64 c.inner-corner.result = search rules in
    let centre : FitsSigned w64 c.inner-centre.result = search rules in
    let both : FitsSigned w64 c.inner-both.result = search rules in
    let over : FitsSigned w64 c.over-w.result = search rules in
    let near : c.inner-corner.result ≤ℤ pos (2 ^ 36 + 2 ^ 29) = is_not_less _ _ (simp to_z-of_z at c.if-corner-gt-NEAR.false) in
    let close : c.inner-centre.result ≤ℤ pos (2 ^ 36 + 2 ^ 29) = is_not_less _ _ (simp to_z-of_z at c.if-centre-gt-NEAR.false) in
    let up : pos 0 ≤ℤ c.over-w.result = is_not_less _ _ (simp to_z-of_z at c.if-w-lt0.false) in
    let w_is : c.over-w.result ≡ reach c.args.m c.args.c.now c.args.p.now =
    rw (c.inner-both.ensures, c.inner-corner.ensures) at (simp to_z-of_z at c.over-w.ensures.exact) in
    let a = simp to_z-of_z at c.unsigned_abs.ensures.value in
    let b = simp to_z-of_z at c.unsigned_abs-2.ensures.value in
    let d = simp to_z-of_z at c.unsigned_abs-3.ensures.value in
    let v = simp to_z-of_z at c.unsigned_abs-4.ensures.value in
    let excess = simp to_z-of_z at c.excess.ensures.exact in
    let across = c.across-across.ensures.exact in
    rw (c.is_beyond.ensures, across, excess, v, a, b, d, w_is, c.inner-corner.ensures, c.inner-centre.ensures, c.inner-both.ensures)
    (near_test c.args.c.now c.args.p.now c.args.m (rw c.inner-corner.ensures at near) (rw c.inner-centre.ensures at close) (rw w_is at up))
