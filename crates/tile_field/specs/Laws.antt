-- The terrain of each tile is read as a mesh in metres.
use Rattle.std.specs.Prelude.{◌≡◌, None}
use Rattle.terrain_base.specs.declared.params.Params.{Params}
use Rattle.terrain_base.specs.declared.tile.TileId.{TileId}
use Rattle.cell_mosaic.specs.Cells.{Cells, AreSound}
use Rattle.mesh_codec.specs.Refusal.{tile_refusal_of}
use Rattle.mesh_query.specs.Field.{MetreMesh}
use Rattle.mesh_query.specs.Answer.{IsFieldOf}
use Rattle.tile_rule.specs.Tile.{terrain_of}

-- of every sound cells and every tile, the terrain is a tile's bytes, and has a mesh in metres
abbrev pub EachTileIsRead : Type 0
EachTileIsRead = (params : Params) (cells : Cells) (tile : TileId) → AreSound cells
    → (tile_refusal_of (terrain_of params cells tile) ≡ None)
    × ((field : MetreMesh) × IsFieldOf (terrain_of params cells tile) field)
