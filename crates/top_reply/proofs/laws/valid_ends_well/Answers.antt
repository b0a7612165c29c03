use Rattle.top_reply.proofs.Valid.{valid_ends_well}
use Rattle.top_reply.proofs.laws.valid_ends_well.Goals as goal

pub returns : goal.returns
returns c = valid_ends_well
