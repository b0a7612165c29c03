-- How a check comes to its text.
use Rattle.std.proofs.Common.{◌≡◌, ℕ, ◌+◌, ◌≤◌, List, [], ◌∷◌, Option, Some, Result, Ok, Err, IfErr, IfOk, length, refl, sym, ap, subst, ◌∙◌, arith}
use Rattle.terrain_base.specs.declared.store.Change.{Change}
use Rattle.terrain_base.specs.Step.{Files}
use Rattle.terrain_base.proofs.Runs.{not_yet, quiet}
use Rattle.tile_deps.specs.Tiles.{existing}
use Rattle.database.specs.declared.answer.EngineAnswer.{EngineAnswer}
use Rattle.database.specs.Answer.{IsStop}
use Rattle.database.specs.State.{State}
use Rattle.db_check.specs.declared.verdict.CheckVerdict.{CheckVerdict}
use Rattle.db_check.specs.Verdict.{IsVerdictOf}
use Rattle.db_check.proofs.Exactness.{one_verdict}
use Rattle.db_engine.specs.Holding.{HoldsState}
use Rattle.db_engine.specs.Opened.{Contents}
use Rattle.db_report.specs.Check.{check_line_of}
use Rattle.top_reply.specs.declared.stop.Stop.{Stop}
use Rattle.top_reply.specs.Check.{IsChecked, check_course, check_reply}
use Rattle.top_reply.specs.Course.{Course}
use Rattle.terrain_top.specs.declared.answer.Answer.{Answer}
use Rattle.terrain_top.specs.Effects.{OnlyMemory, StopsBy}
use Rattle.terrain_top.specs.Says.{IsTold, Says}
use Rattle.terrain_top.specs.Turns.{TurnOf}
use Rattle.terrain_top.proofs.EditsGo.{at_memory, at_stop, some_line, stop_untold}
use Rattle.terrain_top.proofs.Whole.{same_files}

module _ (s : State) (files : Files) (course : Course) (held held' : Option Files) (log log' : Option (List Change))
    (o : Contents) (work work' : ℕ) (is : held ≡ Some files) (h : HoldsState held o s) (of : IsChecked s files course)
    (same : held' ≡ held) (logged : log' ≡ log) where
  as_course : (result : Result Answer Stop) → TurnOf (check_course s of.verdict) held held' log log' work work' result
      → TurnOf course held held' log log' work work' result
  as_course result goes = subst (λ x. TurnOf x held held' log log' work work' result) (sym of.course_is) goes

  told : (result : Result Answer Stop) → work' ≤ work + length (existing o.params.cap o.rows)
      → IfOk result (Says (check_reply of.verdict)) → OnlyMemory result
      → TurnOf (check_course s of.verdict) held held' log log' work work' result
  told (Ok a) few says memory = record {
    status_is = says.status;
    text = says.text;
    some = some_line (check_line_of of.verdict);
    steps = quiet same logged;
    tiles = subst (λ n. work' ≤ work + n) (λ i. length (existing (h.params_is i).cap (h.rows_is i))) few;
  }
  told (Err e) few says memory = at_memory [] e (not_yet same logged) memory

  pub checked : (verdict : CheckVerdict) (result : Result Answer Stop) → IsVerdictOf s h.files verdict
      → work' ≤ work + length (existing o.params.cap o.rows) → IfOk result (Says (check_reply verdict)) → OnlyMemory result
      → TurnOf course held held' log log' work work' result
  checked verdict result found few says memory =
      let here = subst (λ f. IsVerdictOf s f verdict) (same_files files is h) found in
      let one = one_verdict s files verdict of.verdict here of.is in
      as_course result (told result few (subst (λ v. IfOk result (Says (check_reply v))) one says) memory)

  stopped : (refusal : EngineAnswer) (result : Result Answer Stop) → IsStop refusal → IfOk result (IsTold refusal)
      → IfErr result (StopsBy refusal) → TurnOf (check_course s of.verdict) held held' log log' work work' result
  stopped refusal (Ok a) stop says by = absurd (stop_untold refusal a stop says)
  stopped refusal (Err e) stop says by = at_stop [] e refusal (not_yet same logged) by

  pub not_checked : (refusal : EngineAnswer) (result : Result Answer Stop) → IsStop refusal → IfOk result (IsTold refusal)
      → IfErr result (StopsBy refusal) → TurnOf course held held' log log' work work' result
  not_checked refusal result stop says by = as_course result (stopped refusal result stop says by)
