-- What a trial prints: what it comes to, in one line.
use Rattle.std.specs.Prelude.{◌≡◌, ℕ, List, [], ◌∷◌}
use Rattle.db_report.specs.declared.trial.TrialReport.{TrialReport}
use Rattle.db_report.specs.Trial.{trial_line_of}
use Rattle.db_trial.specs.Trial.{IsTrial, trial_tiles}
use Rattle.top_reply.specs.Course.{Course}
use Rattle.top_reply.specs.Reply.{done_reply}
use Rattle.top_reply.specs.declared.status.Status.TheVariants.{Done}

-- by the line that tells it
abbrev pub trial_course_by : ℕ → ℕ → List ℕ → Course
trial_course_by count number line = record {
  status = Done;
  turns = record { steps = []; tiles = trial_tiles count number; text = (done_reply line).text } ∷ [];
}

pub record IsTrialCourse (count number : ℕ) (course : Course) : Type 0 where
  pub report : TrialReport
  pub is_trial : IsTrial count number report
  pub course_is : course ≡ trial_course_by count number (trial_line_of report)
