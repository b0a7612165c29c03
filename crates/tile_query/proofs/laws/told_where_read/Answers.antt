-- The law.
use Rattle.tile_query.proofs.OneAnswer.{told_where_read}
use Rattle.tile_query.proofs.laws.told_where_read.Goals as goal

pub returns : goal.returns
returns c = told_where_read
