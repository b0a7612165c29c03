use Rattle.top_reply.proofs.Running.{runs_chained}
use Rattle.top_reply.proofs.laws.runs_chain.Goals as goal

pub returns : goal.returns
returns c = runs_chained c.files_are_good.ensures
