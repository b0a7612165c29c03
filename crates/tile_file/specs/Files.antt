-- The two files of a tile, as made.
use Rattle.std.specs.Prelude.{◌≡◌}
use Rattle.terrain_base.specs.declared.params.Params.{Params}
use Rattle.terrain_base.specs.declared.tile.TileId.{TileId}
use Rattle.cell_mosaic.specs.Cells.{Cells}
use Rattle.tile_rule.specs.Tile.{terrain_of, note_of}
use Rattle.tile_file.specs.declared.tile_files.TileFiles.{TileFiles}

-- they are the tile's terrain and its note, byte for byte
pub record AreFilesOf (params : Params) (told : Cells) (tile : TileId) (made : TileFiles) : Type 0 where
  pub terrain : made.terrain.items ≡ terrain_of params told tile
  pub note : made.note.items ≡ note_of params told tile
