use Rattle.std.proofs.Common.{◌≡◌, ◌≤◌, ◌+◌}
use Rattle.terrain_base.specs.Run.{AllDone}
use Rattle.cell_mosaic.specs.Source.{AlikeCells}
use Rattle.database.specs.State.{State}
use Rattle.db_files.specs.Serving.{Serves, count_existing}
use Rattle.db_files.proofs.TileSteps.{tile_steps}
use Rattle.db_files.proofs.tiles.put_tiles.Given as goal

abbrev pub invariant-loop-tile : goal.invariant-loop-tile
invariant-loop-tile g l =
    let holds = g.S.Store.holds in
    let log = g.S.Store.log in
    let cells = g.P.PostSource.cells in
    let keys = g.P.PostSource.shapes in
    record {
      can : (goal.iterator-loop-tile g).can_next l.tile-iterator;
      ends : (goal.iterator-loop-tile g).is_finite l.tile-iterator;
      done : (s : State) → Serves (cells l.fn.source (holds l.fn.store)) l.params l.rows s → AllDone (tile_steps s l.yielded) (holds l.fn.store) (log l.fn.store) (holds l.store) (log l.store);
      told : (s : State) → Serves (cells l.fn.source (holds l.fn.store)) l.params l.rows s → cells l.source (holds l.store) ≡ cells l.fn.source (holds l.fn.store);
      keys_stay : keys l.source ≡ keys l.fn.source;
      alike : AlikeCells (keys l.fn.source) (holds l.fn.store) (holds l.store);
      few : (s : State) → Serves (cells l.fn.source (holds l.fn.store)) l.params l.rows s → l.work ≤ l.fn.work + count_existing s l.yielded;
      more : l.fn.work ≤ l.work;
      faults : g.S.Store.faults l.fn.store ≤ g.S.Store.faults l.store;
    }
