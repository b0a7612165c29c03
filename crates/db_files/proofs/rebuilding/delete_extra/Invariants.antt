use Rattle.std.proofs.Common.{◌≡◌, ◌≤◌, take}
use Rattle.terrain_base.specs.Run.{AllDone}
use Rattle.cell_cache.specs.Cached.{shapes_of_rows}
use Rattle.cell_mosaic.specs.Source.{AlikeCells}
use Rattle.cell_mosaic.specs.Summaries.{summaries_of}
use Rattle.database.specs.State.{State}
use Rattle.db_files.proofs.Fillings.{extra_steps}
use Rattle.db_files.proofs.rebuilding.delete_extra.Given as goal

abbrev pub invariant-loop-name : goal.invariant-loop-name
invariant-loop-name g l =
    let holds = g.S.Store.holds in
    let log = g.S.Store.log in
    record {
      done : (s : State) → l.params ≡ s.params → l.rows ≡ summaries_of s.cells → AllDone (extra_steps s (take l.name-index l.names)) (holds l.fn.store) (log l.fn.store) (holds l.store) (log l.store);
      alike : AlikeCells (shapes_of_rows l.rows) (holds l.fn.store) (holds l.store);
      faults : g.S.Store.faults l.fn.store ≤ g.S.Store.faults l.store;
    }
