-- The law.
use Rattle.mesh_query.proofs.Answers.{one_answer_law}
use Rattle.mesh_query.proofs.laws.one_answer.Goals as goal

pub returns : goal.returns
returns c = one_answer_law
