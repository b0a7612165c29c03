use Rattle.tile_field.proofs.Tiles.{each_tile_is_read}
use Rattle.tile_field.proofs.laws.tiles_are_read.Goals as goal

pub returns : goal.returns
returns c = each_tile_is_read
