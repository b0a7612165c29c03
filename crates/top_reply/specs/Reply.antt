-- What a command says: a status and a text.
use Rattle.std.specs.Prelude.{ℕ, List, [], ◌∷◌, codes, Option, Some, None}
use Rattle.report_text.specs.Words.{joined}
use Rattle.database.specs.declared.answer.EngineAnswer.{EngineAnswer}
use Rattle.db_report.specs.Refusal.{refusal_text_of}
use Rattle.top_reply.specs.declared.status.Status.{Status}
use Rattle.top_reply.specs.declared.status.Status.TheVariants.{Done, Refused}

pub record Reply : Type 0 where
  pub status : Status
  pub text : List ℕ

-- a command that is done tells it in one line
abbrev pub done_reply : List ℕ → Reply
done_reply line = record { status = Done; text = joined (line ∷ codes "\n" ∷ []) }

-- a refusal is one line
abbrev pub refused_reply : List ℕ → Reply
refused_reply cause = record { status = Refused; text = joined (codes "refused " ∷ cause ∷ codes "\n" ∷ []) }

-- a text of several lines
abbrev pub text_reply : List ℕ → Reply
text_reply text = record { status = Done; text = text }

-- why a database refuses; a stop of the store and want of memory refuse nothing
abbrev pub cause_by : Option (List ℕ) → List ℕ
cause_by None = []
cause_by (Some text) = text

abbrev pub cause_of : EngineAnswer → List ℕ
cause_of answer = cause_by (refusal_text_of answer)
