use Rattle.std.proofs.Common.{◌∙◌, sym, ap, arith}
use Rattle.std.proofs.lemmas.List.{at_drop_all}
use Rattle.cell_mosaic.specs.declared.weighted.Weighted.{Weighted}
use Rattle.cell_mosaic.proofs.Heaviest.{pick, heaviest_picked}
use Rattle.cell_mosaic.proofs.blending.nearest.Goals as goal

pub returns : goal.returns
returns c =
    ap (λ (o : Weighted). o.post) (sym (at_drop_all (pick c.loop-one.best) c.args.posts.now c.loop-one.one-index (omega arith)) ∙ c.loop-one.invariant)
    ∙ heaviest_picked c.args.posts.now
