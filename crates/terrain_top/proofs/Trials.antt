-- How a trial goes: its course is one turn, which changes no store that the caller lends.
use Rattle.std.proofs.Common.{ℕ, ◌+◌, ◌≤◌, List, [], codes, Option, Result, Ok, Err, IfOk, refl, sym, subst, inr, arith, length-append}
use Rattle.terrain_base.specs.declared.store.Change.{Change}
use Rattle.terrain_base.specs.Step.{Files}
use Rattle.terrain_base.proofs.Runs.{quiet}
use Rattle.db_report.specs.declared.trial.TrialReport.{TrialReport}
use Rattle.db_report.specs.Trial.{trial_line_of}
use Rattle.db_trial.specs.Trial.{IsTrial, trial_tiles}
use Rattle.top_reply.specs.declared.stop.Stop.{Stop}
use Rattle.top_reply.specs.declared.stop.Stop.TheVariants as stop
use Rattle.top_reply.specs.Course.{Course, Turn, StopsIn, world}
use Rattle.top_reply.specs.Reply.{done_reply}
use Rattle.top_reply.specs.Trial.{IsTrialCourse, trial_course_by}
use Rattle.top_reply.proofs.OneCourse.{one_trial}
use Rattle.terrain_top.specs.declared.answer.Answer.{Answer}
use Rattle.terrain_top.specs.Comes.{Comes}
use Rattle.terrain_top.specs.Effects.{OnlyMemory}
use Rattle.terrain_top.specs.Says.{Says}
use Rattle.terrain_top.proofs.Coming.{comes_as, not_begun, turn_comes}

-- the turn of a trial by its line
abbrev turn_by : ℕ → ℕ → List ℕ → Turn
turn_by count number line =
    record { steps = []; tiles = trial_tiles count number; text = (done_reply line).text }

-- nothing is printed where memory ran out
pub trial_stops : (count number : ℕ) (course : Course) (held : Option Files) (log : Option (List Change))
    (taken : Option (List ℕ)) (work work' : ℕ) → IsTrialCourse count number course
    → StopsIn stop.NoMemory course.turns (world held log taken work) (world held log taken work')
trial_stops count number course held log taken work work' is =
    subst (λ x. StopsIn stop.NoMemory x.turns (world held log taken work) (world held log taken work')) (sym is.course_is)
    (not_begun (turn_by count number (trial_line_of is.report)) [] (world held log taken work)
    (world held log taken work') stop.NoMemory refl refl refl (inr refl))

told_by : (count number : ℕ) (line : List ℕ) (held : Option Files) (log : Option (List Change))
    (taken : Option (List ℕ)) (work work' : ℕ) (result : Result Answer Stop)
    → work' ≤ work + trial_tiles count number → IfOk result (Says (done_reply line)) → OnlyMemory result
    → Comes (trial_course_by count number line) (world held log taken work) (world held log taken work') result
told_by count number line held log taken work work' (Ok answer) few says only =
    turn_comes (trial_course_by count number line) (world held log taken work) (world held log taken work') (Ok answer)
    (record {
      status_is = says.status;
      text = says.text;
      some = omega (arith, length-append line (codes "\n"));
      steps = quiet refl refl;
      tiles = few;
    }) refl
told_by count number line held log taken work work' (Err e) few says only =
    not_begun (turn_by count number line) [] (world held log taken work) (world held log taken work') e refl refl refl
    (inr only)

-- its line is told, and any course of the trial is this one
pub trial_comes : (count number : ℕ) (report : TrialReport) (course : Course) (held : Option Files)
    (log : Option (List Change)) (taken : Option (List ℕ)) (work work' : ℕ) (result : Result Answer Stop)
    → IsTrial count number report → work' ≤ work + trial_tiles count number
    → IfOk result (Says (done_reply (trial_line_of report))) → OnlyMemory result → IsTrialCourse count number course
    → Comes course (world held log taken work) (world held log taken work') result
trial_comes count number report course held log taken work work' result trial few says only is =
    comes_as (trial_course_by count number (trial_line_of report)) course (world held log taken work)
    (world held log taken work') result
    (one_trial count number (trial_course_by count number (trial_line_of report)) course
    (record { report = report; is_trial = trial; course_is = refl }) is)
    (told_by count number (trial_line_of report) held log taken work work' result few says only)

-- there is a course where an answer is given
pub trial_told : (count number : ℕ) (report : TrialReport) → IsTrial count number report
    → (result : Result Answer Stop)
    → IfOk result (λ answer. (course : Course) × IsTrialCourse count number course)
trial_told count number report is (Ok answer) = (
  trial_course_by count number (trial_line_of report),
  record { report = report; is_trial = is; course_is = refl },
)
trial_told count number report is (Err e) = tt
