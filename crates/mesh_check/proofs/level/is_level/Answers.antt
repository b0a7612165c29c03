-- The walk goes on while heights agree.
use Rattle.std.proofs.Common.{◌≡◌, ◌+◌, arith, refl, sym, ◌∙◌, inl, inr, true, false, length}
use Rattle.std.proofs.lemmas.Int.{to_z-of_z}
use Rattle.mesh_check.proofs.LevelSteps.{met_start}
use Rattle.mesh_check.proofs.LevelWalk.{lower_wide, lower_row, upper_row, overlap_of, meeting, break_left, break_right}
use Rattle.mesh_check.proofs.LevelWalk.{shown, walk_next, walk_end, right_lower, right_upper}
use Rattle.mesh_check.proofs.level.is_level.Goals as goal
use Rattle.mesh_check.proofs.level.is_level.Goals.{then-at-lower, else-at-lower+then-at-upper}

pub loop-at-init : goal.loop-at-init
loop-at-init c =
    let range = c.ranges.v in
    let v = c.args.v in let lower = c.args.lower.now in let upper = c.args.upper.now in
    simp to_z-of_z (met_start v _ lower upper (lower_row v lower upper c.requires) (upper_row v lower upper c.requires))

pub later_left-requires : goal.later_left-requires
later_left-requires c =
    let range = c.ranges.v in
    let v = c.args.v in let lower = c.args.lower.now in let upper = c.args.upper.now in let at = c.loop-at.at in
    let walk = simp to_z-of_z at c.loop-at.invariant in
    simp to_z-of_z (meeting v lower upper c.requires at (overlap_of v lower upper c.requires at walk) _)

pub later_left-requires-2 : goal.later_left-requires-2
later_left-requires-2 c =
    let range = c.ranges.v in
    let v = c.args.v in let lower = c.args.lower.now in let upper = c.args.upper.now in let at = c.loop-at.at in
    let walk = simp to_z-of_z at c.loop-at.invariant in
    simp to_z-of_z (meeting v lower upper c.requires at (overlap_of v lower upper c.requires at walk) _)

pub agree-requires-clause-meeting : goal.agree-requires-clause-meeting
agree-requires-clause-meeting c =
    let range = c.ranges.v in
    let v = c.args.v in let lower = c.args.lower.now in let upper = c.args.upper.now in let at = c.loop-at.at in
    let walk = simp to_z-of_z at c.loop-at.invariant in
    simp to_z-of_z (meeting v lower upper c.requires at (overlap_of v lower upper c.requires at walk) _)

pub agree-requires-2-clause-meeting : goal.agree-requires-2-clause-meeting
agree-requires-2-clause-meeting c =
    let range = c.ranges.v in
    let v = c.args.v in let lower = c.args.lower.now in let upper = c.args.upper.now in let at = c.loop-at.at in
    let walk = simp to_z-of_z at c.loop-at.invariant in
    simp to_z-of_z (meeting v lower upper c.requires at (overlap_of v lower upper c.requires at walk) _)

pub returns-then-not-agree-clause-no : goal.returns-then-not-agree-clause-no
returns-then-not-agree-clause-no c =
    let range = c.ranges.v in
    let v = c.args.v in let lower = c.args.lower.now in let upper = c.args.upper.now in let at = c.loop-at.at in
    let walk = simp to_z-of_z at c.loop-at.invariant in
    let later = simp to_z-of_z at c.later_left.ensures in
    let same = simp to_z-of_z at c.if-not-agree.ensures in
    λ _. break_left v lower upper c.requires at
    (overlap_of v lower upper c.requires at walk) _ c.later_left.result later
    (λ s. let clash : true ≡ false = sym (same.1 s) in cc)

pub next-at-requires-clause-beside : goal.next-at-requires-clause-beside
next-at-requires-clause-beside c =
    let range = c.ranges.v in
    simp to_z-of_z c.requires

pub next-at-requires-clause-overlap : goal.next-at-requires-clause-overlap
next-at-requires-clause-overlap c =
    let range = c.ranges.v in
    let v = c.args.v in let lower = c.args.lower.now in let upper = c.args.upper.now in let at = c.loop-at.at in
    let walk = simp to_z-of_z at c.loop-at.invariant in
    simp to_z-of_z (overlap_of v lower upper c.requires at walk)

pub next-at-requires-clause-more : goal.next-at-requires-clause-more
next-at-requires-clause-more c =
    elim c.if-at-lower.branch [
      | then-at-lower w ↦ inl w.if-at-lower.true
      | else-at-lower+then-at-upper w ↦ inr w.if-at-upper.true
    ]

pub loop-at-preserved : goal.loop-at-preserved
loop-at-preserved c =
    let range = c.ranges.v in
    let v = c.args.v in let lower = c.args.lower.now in let upper = c.args.upper.now in let at = c.loop-at.at in
    let walk = simp to_z-of_z at c.loop-at.invariant in
    let later = simp to_z-of_z at c.later_left.ensures in
    let same = simp to_z-of_z at c.if-not-agree.ensures in
    let next = simp to_z-of_z at c.next-at.ensures in
    simp to_z-of_z (walk_next v lower upper c.requires at c.next-at.result walk
    (shown v lower upper c.requires at walk _ c.later_left.result later (same.0 refl)) next)

pub agree-requires-then-agree-clause-end : goal.agree-requires-then-agree-clause-end
agree-requires-then-agree-clause-end c =
    let range = c.ranges.v in
    let v = c.args.v in let lower = c.args.lower.now in let upper = c.args.upper.now in let at = c.loop-at.at in
    let walk = simp to_z-of_z at c.loop-at.invariant in
    simp to_z-of_z (lower_wide v _ _
    (meeting v lower upper c.requires at (overlap_of v lower upper c.requires at walk) _)).right_meets

pub agree-requires-then-agree-clause-lower_holds : goal.agree-requires-then-agree-clause-lower_holds
agree-requires-then-agree-clause-lower_holds c =
    let range = c.ranges.v in
    let v = c.args.v in let lower = c.args.lower.now in let upper = c.args.upper.now in let at = c.loop-at.at in
    let walk = simp to_z-of_z at c.loop-at.invariant in
    simp to_z-of_z (right_lower v lower upper c.requires at (overlap_of v lower upper c.requires at walk) _)

pub agree-requires-then-agree-clause-upper_holds : goal.agree-requires-then-agree-clause-upper_holds
agree-requires-then-agree-clause-upper_holds c =
    let range = c.ranges.v in
    let v = c.args.v in let lower = c.args.lower.now in let upper = c.args.upper.now in let at = c.loop-at.at in
    let walk = simp to_z-of_z at c.loop-at.invariant in
    let last : at.upper + 1 ≡ length upper = omega (arith, walk.in_second, c.if-at-upper.false) in
    simp to_z-of_z (right_upper v lower upper c.requires at (overlap_of v lower upper c.requires at walk) _ last)

pub agree-requires-then-agree-clause-meeting : goal.agree-requires-then-agree-clause-meeting
agree-requires-then-agree-clause-meeting c =
    let range = c.ranges.v in
    let v = c.args.v in let lower = c.args.lower.now in let upper = c.args.upper.now in let at = c.loop-at.at in
    let walk = simp to_z-of_z at c.loop-at.invariant in
    simp to_z-of_z (meeting v lower upper c.requires at (overlap_of v lower upper c.requires at walk) _)

pub returns-then-agree-clause-yes : goal.returns-then-agree-clause-yes
returns-then-agree-clause-yes c =
    let range = c.ranges.v in
    let v = c.args.v in let lower = c.args.lower.now in let upper = c.args.upper.now in let at = c.loop-at.at in
    let walk = simp to_z-of_z at c.loop-at.invariant in
    let last : at.upper + 1 ≡ length upper = omega (arith, walk.in_second, c.if-at-upper.false) in
    let first : at.lower + 1 ≡ length lower = omega (arith, walk.in_first, c.if-at-lower.false) in
    let later = simp to_z-of_z at c.later_left-2.ensures in
    let same = simp to_z-of_z at c.agree-2.ensures in
    let same_right = simp to_z-of_z at c.agree-then-agree.ensures in
    λ yes. walk_end v lower upper c.requires at walk
    (shown v lower upper c.requires at walk _ c.later_left-2.result later (same.0 c.if-agree.true)) first last _
    (same_right.0 yes)

pub returns-then-agree-clause-no : goal.returns-then-agree-clause-no
returns-then-agree-clause-no c =
    let range = c.ranges.v in
    let v = c.args.v in let lower = c.args.lower.now in let upper = c.args.upper.now in let at = c.loop-at.at in
    let walk = simp to_z-of_z at c.loop-at.invariant in
    let last : at.upper + 1 ≡ length upper = omega (arith, walk.in_second, c.if-at-upper.false) in
    let same_right = simp to_z-of_z at c.agree-then-agree.ensures in
    λ no. break_right v lower upper c.requires at (overlap_of v lower upper c.requires at walk) _ last
    (λ s. let clash : true ≡ false = sym (same_right.1 s) ∙ no in cc)

pub returns-else-agree-clause-no : goal.returns-else-agree-clause-no
returns-else-agree-clause-no c =
    let range = c.ranges.v in
    let v = c.args.v in let lower = c.args.lower.now in let upper = c.args.upper.now in let at = c.loop-at.at in
    let walk = simp to_z-of_z at c.loop-at.invariant in
    let later = simp to_z-of_z at c.later_left-2.ensures in
    let same = simp to_z-of_z at c.if-agree.ensures in
    λ _. break_left v lower upper c.requires at
    (overlap_of v lower upper c.requires at walk) _ c.later_left-2.result later
    (λ s. let clash : true ≡ false = sym (same.1 s) in cc)
