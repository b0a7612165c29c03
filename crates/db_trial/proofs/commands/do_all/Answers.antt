use Rattle.std.proofs.Common.{◌≡◌, ◌+◌, ◌%◌, ◌^◌, ◌∙◌, ap, subst, arith}
use Rattle.dted_write.specs.Mix.{mixed}
use Rattle.db_trial.specs.Generated.{generated_list}
use Rattle.db_trial.specs.Step.{DidAll}
use Rattle.db_trial.proofs.Sequences.{more_accepted, more_refused}
use Rattle.db_trial.proofs.commands.do_all.Goals.{then-branch, else-branch}
use Rattle.db_trial.proofs.commands.do_all.Goals as goal

pub do_generated-requires : goal.do_generated-requires
do_generated-requires g c = record { state = _; keeps = (c.loop-k.invariant.did c.requires.state c.requires.keeps).keeps }

pub loop-k-preserved : goal.loop-k-preserved
loop-k-preserved g c =
    let drawn = c.mix-drawn.ensures ∙ ap (λ n. mixed ((c.args.number + n) % 2 ^ 64)) c.from.ensures in
    elim c.if-branch.branch [
      | then-branch w ↦ record {
        did = λ s k.
            let so_far = c.loop-k.invariant.did s k in
            more_accepted c.args.number c.loop-k.k _ _ _ s drawn w.if-branch.true w.accepted-is w.refused-is so_far (c.in_ok-do_generated.ensures.did _ so_far.keeps);
        counted = omega arith;
        more = omega arith;
        faults = omega arith;
      }
      | else-branch w ↦ record {
        did = λ s k.
            let so_far = c.loop-k.invariant.did s k in
            more_refused c.args.number c.loop-k.k _ _ _ s drawn w.if-branch.false w.accepted-is w.refused-is so_far (c.in_ok-do_generated.ensures.did _ so_far.keeps);
        counted = omega arith;
        more = omega arith;
        faults = omega arith;
      }
    ]

pub returns-clause-did : goal.returns-clause-did
returns-clause-did g c = λ s k.
    let end : c.loop-k.k ≡ c.args.count = omega arith in
    subst (λ n. DidAll (generated_list n c.args.number) s (g.S.Store.holds c.loop-k.store) c.loop-k.opened c.args.work.now c.loop-k.work c.loop-k.accepted c.loop-k.refused) end (c.loop-k.invariant.did s k)
