-- One vertex more.
use Rattle.std.proofs.Common.{◌≡◌, ℕ, length, add-one, arith, subst, FitsSigned, w32, w64}
use Rattle.std.proofs.lemmas.Int.{ints, to_z-of_z}
use Rattle.mesh_query.specs.Found.{at_place}
use Rattle.mesh_query.specs.Way.{place}
use Rattle.sight_line.specs.Seen.{AreSeen}
use Rattle.sight_line.proofs.Cuts.{off}
use Rattle.sight_line.proofs.Lists.{seen_is, seen_more, seen_same}
use Rattle.sight_line.proofs.seen.view.Goals as goal
use Rattle.sight_line.proofs.seen.view.Goals.{then-sees+in_ok-push, else-sees}

pub loop-k-preserved : goal.loop-k-preserved
loop-k-preserved c =
    let mesh = c.args.field.now in let p = place c.args.eye.spot in let a = c.args.eye.metres in
    let k = c.loop-k.k in let corner = c.corner-corner.result in
    let u : FitsSigned w64 corner.u = omega (arith, ints, c.corner-corner.ensures.on_tile) in
    let v : FitsSigned w64 corner.v = omega (arith, ints, c.corner-corner.ensures.on_tile) in
    let h : FitsSigned w32 corner.h = omega (arith, ints, c.corner-corner.ensures.low) in
    let metres : FitsSigned w32 a = omega (arith, ints, c.requires.eye.metres) in
    let is = seen_is mesh p (at_place c.place_of-from.result) a k c.sees.result c.tris-tris.result.now corner
    c.tris-tris.ensures.tris c.place_of-from.ensures.place c.corner-corner.ensures.corner
    (simp to_z-of_z at c.sees.ensures) in
    elim c.if-sees.branch [
      | then-sees+in_ok-push w ↦
          rw (add-one, w.seen-is, w.in_ok-push.ensures.items)
          (seen_more mesh p a k c.loop-k.seen.items (is.0 w.if-sees.true) c.loop-k.invariant)
      | else-sees w ↦
          rw (add-one, w.seen-is)
          (seen_same mesh p a k c.loop-k.seen.items (λ s. off c.sees.result w.if-sees.false (is.1 s)) c.loop-k.invariant)
    ]

pub returns : goal.returns
returns c =
    let all : c.loop-k.k ≡ length c.args.field.now.corners =
    omega (arith, c.loop-k-test.false, c.loop-k.auto.k-end, c.vertices-k-end.ensures) in
    subst (λ (n : ℕ). AreSeen c.args.field.now (place c.args.eye.spot) c.args.eye.metres n c.loop-k.seen.items) all
    c.loop-k.invariant
