use Rattle.std.proofs.Common.{◌++◌, ap, sym, ◌∙◌}
use Rattle.std.specs.List.{filter}
use Rattle.availability.specs.Existence.{exists_of}
use Rattle.tile_deps.specs.Tiles.{level_tiles}
use Rattle.tile_deps.specs.Walk.{runs_tiles}
use Rattle.tile_deps.proofs.RunWalk.{below_all, below_more}
use Rattle.tile_deps.proofs.existing.ExistingTiles.of.Goals as goal

pub loop-z-init : goal.loop-z-init
loop-z-init c = ap runs_tiles c.new-list.ensures.items

pub loop-z-preserved : goal.loop-z-preserved
loop-z-preserved c =
    c.in_ok-add_level.ensures
    ∙ ap (λ tiles. tiles ++ filter (exists_of c.args.cap c.args.summaries.now) (level_tiles c.loop-z.z)) c.loop-z.invariant
    ∙ sym (below_more c.args.cap c.args.summaries.now c.loop-z.z)

pub returns : goal.returns
returns c =
    ap runs_tiles c.into_iter.ensures.rest ∙ c.loop-z.invariant ∙ below_all c.args.cap c.args.summaries.now c.loop-z.z c.loop-z-test.false c.loop-z.auto.z-end
