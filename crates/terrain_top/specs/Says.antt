-- What an answer says.
use Rattle.std.specs.Prelude.{◌≡◌, ◌≢◌, Result, Ok, Err, IsSomeAnd}
use Rattle.database.specs.declared.answer.EngineAnswer.{EngineAnswer}
use Rattle.db_report.specs.Refusal.{refusal_text_of}
use Rattle.top_reply.specs.declared.status.Status.{Status}
use Rattle.top_reply.specs.declared.status.Status.TheVariants.{Done, Refused, Found}
use Rattle.top_reply.specs.declared.stop.Stop.{Stop}
use Rattle.top_reply.specs.Reply.{Reply, refused_reply}
use Rattle.top_reply.specs.Status.{stop_status}
use Rattle.terrain_top.specs.declared.answer.Answer.{Answer}
use Rattle.terrain_top.specs.declared.answer.Ending.{Ending}
use Rattle.terrain_top.specs.declared.answer.Ending.TheVariants as ending

-- the status of a command that was not stopped
abbrev pub status_at : Ending → Status
status_at ending.Done = Done
status_at ending.Refused = Refused
status_at ending.Found = Found

-- the status of a run of a command that ended so
abbrev pub status_by : Result Ending Stop → Status
status_by (Ok end) = status_at end
status_by (Err e) = stop_status e

-- the answer is the reply
pub record Says (reply : Reply) (answer : Answer) : Type 0 where
  pub status : status_at answer.ending ≡ reply.status
  pub text : answer.text.items ≡ reply.text

-- the answer is a reply of these
pub record SaysSome (Is : Reply → Type 0) (answer : Answer) : Type 0 where
  pub reply : Reply
  pub is : Is reply
  pub says : Says reply answer

-- the answer finds nothing amiss: the command does not look for it
abbrev pub IsPlain : Answer → Type 0
IsPlain answer = answer.ending ≢ ending.Found

-- the answer is the refusal that the engine gave
abbrev pub IsTold : EngineAnswer → Answer → Type 0
IsTold refusal answer = IsSomeAnd (refusal_text_of refusal) (λ cause. Says (refused_reply cause) answer)
