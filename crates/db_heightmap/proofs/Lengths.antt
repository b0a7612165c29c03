-- The bytes of a tile are not none.
use Rattle.std.proofs.Common.{◌<◌, length, arith}
use Rattle.std.proofs.lemmas.Bool.Decides.{nat_tests}
use Rattle.terrain_base.specs.declared.params.Params.{Params}
use Rattle.terrain_base.specs.declared.tile.TileId.{TileId}
use Rattle.cell_mosaic.specs.Cells.{Cells}
use Rattle.heightmap_out.specs.Tile.{heightmap_of}
use Rattle.heightmap_out.proofs.ReadBack.{reads_back}

pub has_bytes : (params : Params) (cells : Cells) (tile : TileId) → 0 < length (heightmap_of params cells tile)
has_bytes params cells tile =
    let long = (reads_back params cells tile).long in
    grind (arith, nat_tests, long)
