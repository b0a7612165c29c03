use Rattle.top_reply.proofs.OneCourse.{one_course}
use Rattle.top_reply.proofs.laws.one_course.Goals as goal

pub returns : goal.returns
returns c = one_course
