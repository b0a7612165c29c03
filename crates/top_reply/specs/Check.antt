-- The course of `check`.
use Rattle.std.specs.Prelude.{◌≡◌, [], ◌∷◌, length}
use Rattle.terrain_base.specs.Step.{Files}
use Rattle.database.specs.Commands.{existing}
use Rattle.database.specs.State.{State}
use Rattle.db_check.specs.declared.verdict.CheckVerdict.{CheckVerdict}
use Rattle.db_check.specs.declared.verdict.CheckVerdict.TheVariants as verdict
use Rattle.db_check.specs.Verdict.{IsVerdictOf}
use Rattle.db_report.specs.Check.{check_line_of}
use Rattle.top_reply.specs.declared.status.Status.{Status}
use Rattle.top_reply.specs.declared.status.Status.TheVariants.{Done, Found}
use Rattle.top_reply.specs.Course.{Course}
use Rattle.top_reply.specs.Reply.{Reply, done_reply}

abbrev pub status_of_verdict : CheckVerdict → Status
status_of_verdict (verdict.Good files) = Done
status_of_verdict (verdict.Found name kind) = Found

abbrev pub check_reply : CheckVerdict → Reply
check_reply verdict = record { status = status_of_verdict verdict; text = (done_reply (check_line_of verdict)).text }

-- no change, and a line; each tile is made once
abbrev pub check_course : State → CheckVerdict → Course
check_course s verdict = record {
  status = status_of_verdict verdict;
  turns = record { steps = []; tiles = length (existing s); text = (check_reply verdict).text } ∷ [];
}

-- the files are compared with those of the state
pub record IsChecked (s : State) (files : Files) (course : Course) : Type 0 where
  pub verdict : CheckVerdict
  pub is : IsVerdictOf s files verdict
  pub course_is : course ≡ check_course s verdict
