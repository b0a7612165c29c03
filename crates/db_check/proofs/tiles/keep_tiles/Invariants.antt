use Rattle.std.proofs.Common.{◌≡◌, ◌≤◌, ◌+◌, ◌++◌, List, Some, length}
use Rattle.terrain_base.specs.Step.{Files}
use Rattle.terrain_base.specs.declared.name.Key.{Key}
use Rattle.database.specs.Commands.{tile_names}
use Rattle.database.specs.State.{State}
use Rattle.database.specs.Verdict.{difference_at, IsLeast}
use Rattle.db_files.specs.Serving.{Serves}
use Rattle.db_check.specs.Tiles.{AllExist}
use Rattle.db_check.proofs.tiles.keep_tiles.Given as goal

abbrev pub invariant-loop-tile : goal.invariant-loop-tile
invariant-loop-tile g l =
    let holds = g.S.Store.holds in
    let cells = g.P.PostSource.cells in
    record {
      can : (goal.iterator-loop-tile g).can_next l.tile-iterator;
      ends : (goal.iterator-loop-tile g).is_finite l.tile-iterator;
      least : (files : Files) (s : State) (names : List Key) → holds l.fn.store ≡ Some files
          → Serves (cells l.fn.source (holds l.fn.store)) l.params l.rows s → AllExist s l.yielded
          → IsLeast (difference_at s files) names l.fn.first
          → IsLeast (difference_at s files) (names ++ tile_names l.yielded) l.best;
      told : (s : State) → Serves (cells l.fn.source (holds l.fn.store)) l.params l.rows s
          → cells l.source (holds l.store) ≡ cells l.fn.source (holds l.fn.store);
      keys_stay : g.P.PostSource.shapes l.source ≡ g.P.PostSource.shapes l.fn.source;
      few : l.work ≤ l.fn.work + length l.yielded;
      more : l.fn.work ≤ l.work;
      same : holds l.store ≡ holds l.fn.store;
      quiet : g.S.Store.log l.store ≡ g.S.Store.log l.fn.store;
      faults : g.S.Store.faults l.fn.store ≤ g.S.Store.faults l.store;
    }
