use Rattle.std.proofs.Common.{◌≡◌, ◌≤◌, ◌+◌}
use Rattle.database.specs.State.{State}
use Rattle.db_trial.specs.Generated.{generated_list}
use Rattle.db_trial.specs.Step.{Keeps, DidAll}
use Rattle.db_trial.proofs.commands.do_all.Given as goal

abbrev pub invariant-loop-k : goal.invariant-loop-k
invariant-loop-k g l =
    let holds = g.S.Store.holds in
    record {
      did : (s : State) → Keeps (holds l.fn.store) l.fn.opened s
          → DidAll (generated_list l.k l.number) s (holds l.store) l.opened l.fn.work l.work l.accepted l.refused;
      counted : l.accepted + l.refused ≡ l.k;
      more : l.fn.work ≤ l.work;
      faults : g.S.Store.faults l.fn.store ≤ g.S.Store.faults l.store;
    }
