use Rattle.top_reply.proofs.OneCourse.{one_state}
use Rattle.top_reply.proofs.laws.one_state.Goals as goal

pub returns : goal.returns
returns c = one_state
