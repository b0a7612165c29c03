use Rattle.cell_mosaic.proofs.whole.post_of.Goals as goal

pub returns-clause-height : goal.returns-clause-height
returns-clause-height c = c.post.ensures.range
