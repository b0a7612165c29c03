use Rattle.std.proofs.Common.{rules, arith, ap, ◌∙◌}
use Rattle.availability.proofs.Merges.{all_taken, are_joined}
use Rattle.availability.proofs.merge.merged.Goals.{in-Some+else-loop-next-test+in_ok-push, in_default}
use Rattle.availability.proofs.merge.merged.Goals as goal

pub returns : goal.returns
returns c =
    are_joined c.args.sorted.now c.match-split_first.done.items c.requires.nonempty c.requires.sorted
    (elim c.match-split_first.branch [
      | in-Some+else-loop-next-test+in_ok-push w ↦
          all_taken w.in-Some.first.now w.loop-next.run w.in-Some.rest.now c.args.sorted.now w.loop-next.done.items c.match-split_first.done.items w.loop-next.next-index
          w.in-Some.ensures.cases.0 w.loop-next.invariant (omega (arith, w.loop-next-test.false)) (ap (λ done. done.items) w.done-is ∙ w.in_ok-push.ensures.items)
      | in_default w ↦ search rules
    ])
