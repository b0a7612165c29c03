use Rattle.std.proofs.Common.{◌<◌, arith}
use Rattle.tile_deps.proofs.NextTiles.{behind_all_levels, next_level, next_within_cap}
use Rattle.tile_deps.proofs.next_tile.next_touched.Goals as goal

pub returns-in-Some : goal.returns-in-Some
returns-in-Some c = next_within_cap c.args.square c.args.cap c.args.tile c.in-Some.next c.requires.level c.in-Some.ensures

pub returns-then-tile-cap : goal.returns-then-tile-cap
returns-then-tile-cap c = behind_all_levels c.args.square c.args.cap c.args.tile c.if-tile-cap.true c.in_default.ensures

pub returns : goal.returns
returns c =
    let within : c.args.tile.z < c.args.cap = let le = c.requires.level in let other = c.if-tile-cap.false in omega (arith, le, other) in
    next_level c.args.square c.args.cap c.args.tile c.first_of.result within c.first_of.ensures.level c.in_default.ensures c.first_of.ensures.first
