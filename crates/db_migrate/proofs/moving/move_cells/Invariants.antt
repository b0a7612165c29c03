use Rattle.std.proofs.Common.{◌≤◌, take}
use Rattle.terrain_base.specs.Run.{AllDone}
use Rattle.terrain_base.specs.Step.{Files}
use Rattle.database.specs.Cells.{row_keys}
use Rattle.database.specs.State.{State}
use Rattle.db_old_reading.specs.OldReads.{OldMark}
use Rattle.db_migrate.specs.Moves.{Keeps}
use Rattle.db_migrate.proofs.CellMoves.{moved_steps}
use Rattle.db_migrate.proofs.moving.move_cells.Given as goal

abbrev pub invariant-loop-row : goal.invariant-loop-row
invariant-loop-row g l =
    let holds = g.S.Store.holds in
    let log = g.S.Store.log in
    record {
      done : (files : Files) (s : State) (mark : OldMark) → Keeps (holds l.fn.store) l.version l.staged l.rows files s mark
          → AllDone (moved_steps s l.version l.staged (row_keys (take l.row-index l.rows))) (holds l.fn.store) (log l.fn.store) (holds l.store) (log l.store);
      faults : g.S.Store.faults l.fn.store ≤ g.S.Store.faults l.store;
    }
