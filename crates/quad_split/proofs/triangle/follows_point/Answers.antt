use Rattle.std.proofs.Common.{◌≡◌, arith, FitsSigned, w16, w32, w64, to_z, of_z}
use Rattle.std.specs.Prelude.{pos, ◌-ℤ◌, ◌*ℤ◌, int_le}
use Rattle.mesh_plane.specs.Surface.{gap_under, size_of}
use Rattle.std.proofs.lemmas.Int.{ints, to_z-of_z}
use Rattle.quad_split.proofs.PointTests.{not_held, held_near}
use Rattle.quad_split.proofs.triangle.follows_point.Goals as goal

pub returns-then-ab-lt0 : goal.returns-then-ab-lt0
returns-then-ab-lt0 c =
    not_held c.args.grid.now c.args.tol c.args.tri.now c.args.i c.args.j
    (λ h. let left = h.ab in omega (arith, ints, left, c.turn-ab.ensures.value, c.turn-ab.ensures.size, c.if-ab-lt0.true))

pub returns-then-bc-lt0 : goal.returns-then-bc-lt0
returns-then-bc-lt0 c =
    not_held c.args.grid.now c.args.tol c.args.tri.now c.args.i c.args.j
    (λ h. let left = h.bc in omega (arith, ints, left, c.turn-bc.ensures.value, c.turn-bc.ensures.size, c.if-bc-lt0.true))

pub returns-then-ca-lt0 : goal.returns-then-ca-lt0
returns-then-ca-lt0 c =
    not_held c.args.grid.now c.args.tol c.args.tri.now c.args.i c.args.j
    (λ h. let left = h.ca in omega (arith, ints, left, c.turn-ca.ensures.value, c.turn-ca.ensures.size, c.if-ca-lt0.true))

pub returns : goal.returns
returns c =
    let t = c.args.tri.now in
    let ab : FitsSigned w64 c.turn-ab.result = omega (arith, ints, c.turn-ab.ensures.size) in
    let bc : FitsSigned w64 c.turn-bc.result = omega (arith, ints, c.turn-bc.ensures.size) in
    let ca : FitsSigned w64 c.turn-ca.result = omega (arith, ints, c.turn-ca.ensures.size) in
    let high : FitsSigned w64 c.lift.result = omega (arith, ints, c.lift.ensures.size) in
    let above = c.get.ensures.height.above in let below = c.get.ensures.height.below in
    let metres : FitsSigned w16 c.get.result = omega (arith, ints, above, below) in
    let wide : FitsSigned w32 c.get.result = omega (arith, ints, above, below) in
    let near : c.is_near.result ≡ int_le
    (size_of (to_z w64 (of_z w64 c.lift.result) -ℤ to_z w32 (of_z w32 (to_z w16 (of_z w16 c.get.result))) *ℤ gap_under t (pos 1)))
    (pos c.args.tol *ℤ gap_under t (pos 1)) = c.is_near.ensures in
    held_near c.args.grid.now c.args.tol t c.args.i c.args.j c.turn-ab.result c.turn-bc.result c.turn-ca.result
    c.get.result c.lift.result c.is_near.result c.turn-ab.ensures.value c.turn-bc.ensures.value c.turn-ca.ensures.value
    c.get.ensures.value (simp to_z-of_z at c.lift.ensures.value) (simp to_z-of_z at near)
    (record {
      ab = (let e = c.turn-ab.ensures.value in let f = c.if-ab-lt0.false in omega (arith, ints, e, f));
      bc = (let e = c.turn-bc.ensures.value in let f = c.if-bc-lt0.false in omega (arith, ints, e, f));
      ca = (let e = c.turn-ca.ensures.value in let f = c.if-ca-lt0.false in omega (arith, ints, e, f));
    })
