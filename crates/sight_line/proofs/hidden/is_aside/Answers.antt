-- All three corners are to the left, or all three to the right.
use Rattle.std.proofs.Common.{arith, subst, FitsSigned, w64}
use Rattle.std.specs.Prelude.{ℤ, pos, ◌<ℤ◌}
use Rattle.std.proofs.lemmas.Int.{ints, to_z-of_z}
use Rattle.mesh_query.specs.Found.{at_place}
use Rattle.sight_line.proofs.Cuts.{none_left, none_right}
use Rattle.sight_line.proofs.hidden.is_aside.Goals as goal

pub returns-then-all_left : goal.returns-then-all_left
returns-then-all_left c =
    let line = c.args.line.now in let tri = c.args.tri.now in
    let a : FitsSigned w64 c.aside_of-a.result = omega (arith, ints, c.aside_of-a.ensures.size) in
    let b : FitsSigned w64 c.aside_of-b.result = omega (arith, ints, c.aside_of-b.ensures.size) in
    let d : FitsSigned w64 c.aside_of-c.result = omega (arith, ints, c.aside_of-c.ensures.size) in
    let all = simp to_z-of_z at c.all_left.ensures in
    λ t h. none_left (at_place line.from) line.start (at_place line.to) line.end tri
    (subst (λ (z : ℤ). pos 0 <ℤ z) c.aside_of-a.ensures.value (all t).0)
    (subst (λ (z : ℤ). pos 0 <ℤ z) c.aside_of-b.ensures.value (all t).1.0)
    (subst (λ (z : ℤ). pos 0 <ℤ z) c.aside_of-c.ensures.value (all t).1.1) h

pub returns-else-all_left : goal.returns-else-all_left
returns-else-all_left c =
    let line = c.args.line.now in let tri = c.args.tri.now in
    let a : FitsSigned w64 c.aside_of-a.result = omega (arith, ints, c.aside_of-a.ensures.size) in
    let b : FitsSigned w64 c.aside_of-b.result = omega (arith, ints, c.aside_of-b.ensures.size) in
    let d : FitsSigned w64 c.aside_of-c.result = omega (arith, ints, c.aside_of-c.ensures.size) in
    let all = simp to_z-of_z at c.all_right.ensures in
    λ t h. none_right (at_place line.from) line.start (at_place line.to) line.end tri
    (subst (λ (z : ℤ). z <ℤ pos 0) c.aside_of-a.ensures.value (all t).0)
    (subst (λ (z : ℤ). z <ℤ pos 0) c.aside_of-b.ensures.value (all t).1.0)
    (subst (λ (z : ℤ). z <ℤ pos 0) c.aside_of-c.ensures.value (all t).1.1) h
