use Rattle.std.proofs.Common.{◌≡◌, ◌≤◌, Some, map, take}
use Rattle.terrain_base.specs.Step.{Files}
use Rattle.database.specs.Cells.{row_keys}
use Rattle.db_old_reading.specs.Kept.{row_of}
use Rattle.db_old_reading.specs.Told.{AreRead}
use Rattle.db_old_reading.proofs.reading.read_rows.Given as goal

abbrev pub invariant-loop-row : goal.invariant-loop-row
invariant-loop-row g l =
    let holds = g.S.Store.holds in
    record {
      read : (files : Files) → holds l.fn.store ≡ Some files → AreRead files l.fn.version l.staged l.cells.items;
      rows : map (row_of l.fn.version) (row_keys l.cells.items) ≡ take l.row-index l.rows;
      same : holds l.store ≡ holds l.fn.store;
      quiet : g.S.Store.log l.store ≡ g.S.Store.log l.fn.store;
      faults : g.S.Store.faults l.fn.store ≤ g.S.Store.faults l.store;
    }
