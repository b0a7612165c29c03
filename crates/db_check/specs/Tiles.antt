-- Tiles that all exist.
use Rattle.std.specs.Prelude.{◌≡◌, true, List}
use Rattle.std.specs.List.{list_all}
use Rattle.terrain_base.specs.declared.tile.TileId.{TileId}
use Rattle.database.specs.State.{State, tile_exists}

abbrev pub AllExist : State → List TileId → Type 0
AllExist s tiles = list_all (tile_exists s) tiles ≡ true
