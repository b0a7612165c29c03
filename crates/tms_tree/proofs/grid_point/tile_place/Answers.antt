use Rattle.std.proofs.Common.{arith}
use Rattle.std.proofs.lemmas.Nat.{shl_whole}
use Rattle.tms_tree.proofs.Places.{is_place}
use Rattle.tms_tree.proofs.grid_point.tile_place.Goals as goal

pub returns-clause-place : goal.returns-clause-place
returns-clause-place c =
    let tile = c.args.tile in
    is_place tile.x tile.y tile.z _ _ _ tile.z_in_range tile.x_in_range tile.y_in_range c.grid_line.ensures.within c.grid_line-2.ensures.within
    (omega (arith, shl_whole 32767 15 tile.z 64 (omega arith) (omega (arith, tile.z_in_range))))
