use Rattle.terrain_top.proofs.Meanings.{good_meant, means}
use Rattle.terrain_top.proofs.top.command_of.Goals as goal

pub returns-clause-means : goal.returns-clause-means
returns-clause-means c = means _ c.command_in.result c.command_in.ensures.right c.command_in.ensures.all

pub returns-clause-good : goal.returns-clause-good
returns-clause-good c = good_meant _ c.command_in.result c.command_in.ensures.right
