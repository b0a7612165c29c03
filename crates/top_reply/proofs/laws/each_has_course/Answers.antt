use Rattle.top_reply.proofs.EachCourse.{each_has_course, each_passes}
use Rattle.top_reply.proofs.laws.each_has_course.Goals as goal

pub returns-clause-course : goal.returns-clause-course
returns-clause-course c = each_has_course

pub returns-clause-states : goal.returns-clause-states
returns-clause-states c = each_passes
