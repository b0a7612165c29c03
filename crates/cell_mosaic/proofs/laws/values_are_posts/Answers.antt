use Rattle.cell_mosaic.proofs.Ranges.{values_are_posts}
use Rattle.cell_mosaic.proofs.laws.values_are_posts.Goals as goal

pub returns : goal.returns
returns c = values_are_posts
