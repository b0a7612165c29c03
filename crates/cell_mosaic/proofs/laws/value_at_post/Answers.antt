use Rattle.cell_mosaic.proofs.ValueLaws.{value_at_post}
use Rattle.cell_mosaic.proofs.laws.value_at_post.Goals as goal

pub returns : goal.returns
returns c = value_at_post
