use Rattle.std.proofs.Common.{◌∙◌, ap, sym}
use Rattle.quad_split.specs.SplitMap.{bit_at}
use Rattle.terrain_base.specs.declared.side.Side.{Side}
use Rattle.tile_mesh.specs.Rule.{border_split}
use Rattle.tile_mesh.proofs.InnerLists.{last_is}
use Rattle.tile_mesh.proofs.inner.is_border_split.Goals as goal

pub returns-in-East : goal.returns-in-East
returns-in-East c =
    let b = bit_at c.args.splits.now in let k = c.args.level in let m = c.args.place in
    c.split_at-in-East.ensures ∙ ap (λ i. b k i m) (last_is k c.args.length c.requires.level c.requires.length)
    ∙ ap (λ (s : Side). border_split b s k m) (sym c.in-East.is)

pub returns-in-North : goal.returns-in-North
returns-in-North c =
    let b = bit_at c.args.splits.now in let k = c.args.level in let m = c.args.place in
    c.split_at-in-North.ensures ∙ ap (λ i. b k m i) (last_is k c.args.length c.requires.level c.requires.length)
    ∙ ap (λ (s : Side). border_split b s k m) (sym c.in-North.is)
