use Rattle.std.proofs.Common.{◌≡◌, ◌≤◌, ◌+◌, take, map}
use Rattle.std.specs.FinMap.{entries}
use Rattle.database.specs.State.{State}
use Rattle.db_engine.specs.Holding.{no_cells}
use Rattle.db_trial.specs.Sequence.{adds, after_all, tiles_made}
use Rattle.db_trial.specs.Step.{Keeps}
use Rattle.db_trial.proofs.scratch.add_cells.Given as goal

abbrev pub invariant-loop-row : goal.invariant-loop-row
invariant-loop-row g l =
    let holds = g.S.Store.holds in
    record {
      keeps : (s : State) → Keeps (holds l.fn.store) l.opened s → Keeps (holds l.fn.other) l.fn.grown (no_cells s.params)
          → Keeps (holds l.other) l.grown (after_all (map adds (take l.row-index (entries s.cells))) (no_cells s.params));
      few : (s : State) → Keeps (holds l.fn.store) l.opened s → Keeps (holds l.fn.other) l.fn.grown (no_cells s.params)
          → l.work ≤ l.fn.work + tiles_made (map adds (take l.row-index (entries s.cells))) (no_cells s.params);
      same : holds l.store ≡ holds l.fn.store;
      more : l.fn.work ≤ l.work;
      faults : g.S.Store.faults l.fn.store ≤ g.S.Store.faults l.store;
      other_faults : g.S.Store.faults l.fn.other ≤ g.S.Store.faults l.other;
    }
