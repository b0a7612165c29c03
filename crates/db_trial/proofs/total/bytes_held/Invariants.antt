use Rattle.std.proofs.Common.{◌≡◌, ◌≤◌, take, Some}
use Rattle.terrain_base.specs.Step.{Files}
use Rattle.db_trial.proofs.Totals.{lengths}
use Rattle.db_trial.proofs.total.bytes_held.Given as goal

abbrev pub invariant-loop-name : goal.invariant-loop-name
invariant-loop-name g l =
    let holds = g.S.Store.holds in
    record {
      total : (files : Files) → holds l.fn.store ≡ Some files → l.total ≡ lengths files (take l.name-index l.name-items);
      same : holds l.store ≡ holds l.fn.store;
      faults : g.S.Store.faults l.fn.store ≤ g.S.Store.faults l.store;
    }
