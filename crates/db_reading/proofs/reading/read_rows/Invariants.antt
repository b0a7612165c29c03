use Rattle.std.proofs.Common.{◌≡◌, ◌≤◌, Some, take}
use Rattle.terrain_base.specs.Step.{Files}
use Rattle.database.specs.Cells.{row_keys}
use Rattle.db_reading.specs.ReadRow.{AreRead}
use Rattle.db_reading.proofs.reading.read_rows.Given as goal

abbrev pub invariant-loop-key : goal.invariant-loop-key
invariant-loop-key g l =
    let holds = g.S.Store.holds in
    record {
      read : (files : Files) → holds l.fn.store ≡ Some files → AreRead files l.mark l.rows l.key-index l.cells.items;
      keys : row_keys l.cells.items ≡ take l.key-index l.rows;
      same : holds l.store ≡ holds l.fn.store;
      quiet : g.S.Store.log l.store ≡ g.S.Store.log l.fn.store;
      faults : g.S.Store.faults l.fn.store ≤ g.S.Store.faults l.store;
    }
