use Rattle.std.proofs.Common.{arith}
use Rattle.std.proofs.lemmas.Nat.{shl_whole}
use Rattle.heightmap_out.proofs.Places.{is_place}
use Rattle.heightmap_out.proofs.sample.sample_place.Goals as goal

pub returns-clause-place : goal.returns-clause-place
returns-clause-place c =
    let tile = c.args.tile in
    is_place tile.x tile.y tile.z c.args.place c.args.line _ tile.z_in_range tile.x_in_range tile.y_in_range
    c.requires.place c.requires.line
    (omega (arith, shl_whole 64 7 tile.z 64 (omega arith) (omega (arith, tile.z_in_range))))
