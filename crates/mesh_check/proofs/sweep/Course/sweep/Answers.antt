-- The sweep goes on while there are no gaps.
use Rattle.std.proofs.Common.{◌≡◌, ◌+◌, ◌-◌, ◌<◌, ◌∙◌, refl, ap, sym, subst, arith, slice_index_or, length}
use Rattle.mesh_check.specs.Slab.{west, GapAt, Joined}
use Rattle.mesh_check.specs.Findings.{IsShown}
use Rattle.mesh_check.specs.Sweep.{levels_in, AllJoined}
use Rattle.mesh_check.proofs.Sweeps.{sweep_start, sweep_on}
use Rattle.mesh_check.proofs.Finish.{gap_shown, all_shown, at_top, at_bottom, level_read, slab_before, some_level}
use Rattle.mesh_check.proofs.sweep.Course.sweep.Goals as goal

pub loop-place-init : goal.loop-place-init
loop-place-init c =
    sweep_start c.args.self.now c.requires _ c.new.ensures.items refl (slice_index_or c.args.self.now.levels.items
    (1 - 1) 0)
    (at_bottom c.args.self.now.levels.items c.requires.ascending c.requires.placed.south)

pub layer-requires-clause-is : goal.layer-requires-clause-is
layer-requires-clause-is c =
    let xs = c.args.self.now.levels.items in
    let within : c.loop-place.place < length xs = omega (arith, c.loop-place-test.true, c.len-place-end.ensures) in
    slab_before xs c.requires.ascending c.loop-place.place c.index.result.now c.index-in-loop-place.result.now
    c.loop-place.auto.place within
    (level_read xs c.requires.ascending (c.loop-place.place - 1) c.index.result.now
    (omega (arith, within)) c.index.ensures)
    (level_read xs c.requires.ascending c.loop-place.place c.index-in-loop-place.result.now within
    c.index-in-loop-place.ensures)

pub returns-in-Some : goal.returns-in-Some
returns-in-Some c =
    let xs = c.args.self.now.levels.items in
    let within : c.loop-place.place < length xs = omega (arith, c.loop-place-test.true, c.len-place-end.ensures) in
    let low = level_read xs c.requires.ascending (c.loop-place.place - 1) c.index.result.now
    (omega (arith, within)) c.index.ensures in
    gap_shown c.args.self.now c.requires c.index.result.now c.index-in-loop-place.result.now c.in-Some.place
    c.in_ok-above.above c.in_ok-above.ensures.layer
    (subst (λ ms. GapAt c.in_ok-above.above.slab west ms c.in-Some.place) c.deref.ensures.value c.in-Some.ensures.gap)
    (subst (λ v. AllJoined (levels_in c.args.self.now) c.args.self.now.triangles.items v) low
    c.loop-place.invariant.joined)

pub loop-place-preserved : goal.loop-place-preserved
loop-place-preserved c =
    let xs = c.args.self.now.levels.items in
    let within : c.loop-place.place < length xs = omega (arith, c.loop-place-test.true, c.len-place-end.ensures) in
    let low = level_read xs c.requires.ascending (c.loop-place.place - 1) c.index.result.now
    (omega (arith, within)) c.index.ensures in
    let high = level_read xs c.requires.ascending c.loop-place.place c.index-in-loop-place.result.now within
    c.index-in-loop-place.ensures in
    let next : (c.loop-place.place + 1) - 1 ≡ c.loop-place.place = omega arith in
    sweep_on c.args.self.now c.requires c.index.result.now c.index-in-loop-place.result.now c.in_ok-above.above
    c.in_ok-above.ensures.layer
    (subst (λ ms. Joined c.in_ok-above.above.slab west ms) c.deref.ensures.value (c.in_default.ensures.none refl))
    c.layer.new.active c.in_ok-above.ensures.begun
    (subst (λ v. AllJoined (levels_in c.args.self.now) c.args.self.now.triangles.items v) low
    c.loop-place.invariant.joined) c.look-seen.result c.look-seen.ensures
    (slice_index_or xs ((c.loop-place.place + 1) - 1) 0) (ap (λ k. slice_index_or xs k 0) next ∙ high)

pub returns : goal.returns
returns c count few =
    let xs = c.args.self.now.levels.items in
    let some = some_level xs c.requires.ascending c.requires.placed.south in
    let last : c.loop-place.place ≡ length xs = omega (
      arith,
      c.loop-place-test.false,
      c.len-place-end.ensures,
      c.loop-place.auto.place-end (omega (arith, some, c.len-place-end.ensures)),
    ) in
    subst (λ v. IsShown (levels_in c.args.self.now) c.args.self.now.triangles.items count v) (sym c.verdict_of.ensures)
    (all_shown c.args.self.now c.requires (slice_index_or xs (c.loop-place.place - 1) 0)
    (at_top xs c.requires.ascending (c.loop-place.place - 1) (omega (arith, last)) (omega (
      arith,
      last,
      c.loop-place.auto.place,
    )))
    c.loop-place.invariant.joined c.loop-place.seen.step c.loop-place.seen.line c.loop-place.invariant.seen.step
    c.loop-place.invariant.seen.line count few)
