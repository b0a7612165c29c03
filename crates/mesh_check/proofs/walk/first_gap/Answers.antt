-- The walk goes on while places agree.
use Rattle.std.proofs.Common.{arith, ◌≡◌, length, sym, subst, refl, true, false}
use Rattle.mesh_check.specs.Slab.{west, GapAt, IsSame}
use Rattle.mesh_check.proofs.Walks.{walk_start, walk_on, walk_gap, walk_end, walk_end_gap}
use Rattle.mesh_check.proofs.walk.first_gap.Goals as goal

pub loop-place-init : goal.loop-place-init
loop-place-init c = walk_start c.args.slab.now c.args.members.now c.edge-right.result c.requires.slab
    c.edge-right.ensures

pub is_same-requires-clause-a : goal.is_same-requires-clause-a
is_same-requires-clause-a c = c.loop-place.invariant.on_tile

pub is_same-requires-clause-a_spans : goal.is_same-requires-clause-a_spans
is_same-requires-clause-a_spans c = c.loop-place.invariant.spans

pub returns-then-not-is_same-clause-gap : goal.returns-then-not-is_same-clause-gap
returns-then-not-is_same-clause-gap c =
    walk_gap c.args.slab.now c.args.members.now c.loop-place.right c.loop-place.place c.loop-place.invariant _
    c.loop-place-test.true (λ s. let f : true ≡ false = sym (c.if-not-is_same.ensures.1 s) in cc)

pub loop-place-preserved : goal.loop-place-preserved
loop-place-preserved c =
    walk_on c.args.slab.now c.args.members.now c.loop-place.right c.loop-place.place c.loop-place.invariant _
    c.loop-place-test.true (c.requires.each c.loop-place.place _ c.loop-place-test.true)
    (c.if-not-is_same.ensures.0 refl)

pub is_same-requires-2-clause-a : goal.is_same-requires-2-clause-a
is_same-requires-2-clause-a c = c.loop-place.invariant.on_tile

pub is_same-requires-2-clause-a_spans : goal.is_same-requires-2-clause-a_spans
is_same-requires-2-clause-a_spans c = c.loop-place.invariant.spans

pub returns-then-is_same-clause-none : goal.returns-then-is_same-clause-none
returns-then-is_same-clause-none c = λ _.
    walk_end c.args.slab.now c.args.members.now c.loop-place.right c.loop-place.place c.loop-place.invariant
    (omega (arith, c.loop-place-test.false, c.loop-place.auto))
    (subst (λ g. IsSame c.args.slab.now c.loop-place.right g) c.edge.ensures (c.if-is_same.ensures.0 refl))

pub returns-else-is_same-clause-gap : goal.returns-else-is_same-clause-gap
returns-else-is_same-clause-gap c =
    let e : length c.args.members.now ≡ c.loop-place.place = omega (
      arith,
      c.loop-place-test.false,
      c.loop-place.auto,
    ) in
    subst (λ k. GapAt c.args.slab.now west c.args.members.now k) (sym e)
    (walk_end_gap c.args.slab.now c.args.members.now c.loop-place.right c.loop-place.place c.loop-place.invariant e
    (λ s. let f : true ≡ false = sym (c.if-is_same.ensures.1 (subst (λ g. IsSame c.args.slab.now c.loop-place.right g)
    (sym c.edge.ensures) s)) in cc))
