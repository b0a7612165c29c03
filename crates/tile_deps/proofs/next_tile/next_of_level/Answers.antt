use Rattle.std.proofs.Common.{refl}
use Rattle.tile_deps.proofs.NextTiles.{next_in_row}
use Rattle.tile_deps.proofs.next_tile.next_of_level.Goals as goal

pub returns-in-Some : goal.returns-in-Some
returns-in-Some c =
    next_in_row c.args.square c.touched_row-touched.result c.args.tile _ c.touched_row-touched.ensures.exact c.requires refl refl c.in-Some.ensures
