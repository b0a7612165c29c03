-- What the engine's answer to an edit comes to.
use Rattle.std.proofs.Common.{◌≡◌, ◌⊎◌, ℕ, ◌<◌, true, List, [], ◌∷◌, ◌++◌, length, codes, Option, Some, None, Result, Ok, Err, IfOk, refl, sym, ap, subst, ◌∙◌, inl, inr, arith, length-append}
use Rattle.std.specs.Prelude.{IsErrAnd, IsSomeAnd}
use Rattle.terrain_base.specs.declared.square.Square.{Square}
use Rattle.terrain_base.specs.declared.store.Change.{Change}
use Rattle.terrain_base.specs.Run.{SomeDone}
use Rattle.terrain_base.specs.Step.{Files, Step}
use Rattle.terrain_base.proofs.Runs.{all_some, quiet, not_yet}
use Rattle.availability.specs.Count.{tile_count_of}
use Rattle.database.specs.declared.answer.EngineAnswer.{EngineAnswer}
use Rattle.database.specs.declared.answer.EngineAnswer.TheVariants as answer
use Rattle.database.specs.Answer.{IsStop}
use Rattle.database.specs.Commands.{Command, edit_of, refusal_of}
use Rattle.database.specs.State.{State}
use Rattle.db_engine.specs.Edited.{Edited, EditedBy, EditRan, Refused, Turned}
use Rattle.db_engine.specs.Holding.{HoldsState}
use Rattle.db_engine.specs.Opened.{Contents}
use Rattle.db_engine.specs.Rows.{refusal_by_rows}
use Rattle.db_engine.proofs.CellRows.{refusal_is}
use Rattle.db_report.specs.declared.done.Edited as word
use Rattle.db_report.specs.Done.{edited_line_of}
use Rattle.db_report.specs.Refusal.{refusal_text_of}
use Rattle.report_text.specs.Words.{joined}
use Rattle.top_reply.specs.declared.stop.Stop.{Stop}
use Rattle.top_reply.specs.declared.stop.Stop.TheVariants as stop
use Rattle.top_reply.specs.Edits.{EditReply, Wanted, command_reply_by, done_edit, done_line, refused_edit, tiles_in, wanted_reply}
use Rattle.top_reply.specs.Reply.{cause_by, cause_of, done_reply, refused_reply}
use Rattle.terrain_top.specs.declared.answer.Answer.{Answer}
use Rattle.terrain_top.specs.EditGoes.{Answers, EditGoes, tiles_of}
use Rattle.terrain_top.specs.Effects.{OnlyMemory, StopsBy}
use Rattle.terrain_top.specs.Says.{IsTold, Says}
use Rattle.terrain_top.specs.Turns.{TurnStops}

-- ---- what is told

by_text : (text : Option (List ℕ)) (a : Answer) → IsSomeAnd text (λ cause. Says (refused_reply cause) a)
    → Says (refused_reply (cause_by text)) a
by_text None a t = absurd t
by_text (Some cause) a t = t

-- a refusal of the engine is told by its cause
pub told_says : (refusal : EngineAnswer) (a : Answer) → IsTold refusal a → Says (refused_reply (cause_of refusal)) a
told_says refusal a t = by_text (refusal_text_of refusal) a t

-- a stop is not told
pub stop_untold : (refusal : EngineAnswer) (a : Answer) → IsStop refusal → IsTold refusal a → ⊥
stop_untold (answer.CellPresent square level) a st t = st
stop_untold (answer.CellAbsent square level) a st t = st
stop_untold answer.DatabaseFull a st t = st
stop_untold (answer.NotEmpty name) a st t = st
stop_untold (answer.NotADatabase line) a st t = st
stop_untold (answer.Trouble trouble) a st t = st
stop_untold (answer.NoTile tile) a st t = st
stop_untold (answer.TileLost name) a st t = st
stop_untold (answer.OldVersion version) a st t = st
stop_untold (answer.NotOld version) a st t = st
stop_untold answer.StoreFault a st t = t
stop_untold answer.NoMemory a st t = t

-- ---- texts that are not empty

pub some_line : (line : List ℕ) → 0 < length (done_reply line).text
some_line line = omega (arith, length-append line (codes "\n"))

some_after : (line rest : List ℕ) (first : ℕ) → 0 < length (line ++ (first ∷ rest))
some_after [] rest first = omega arith
some_after (byte ∷ line) rest first = omega arith

pub some_behind : (line more last : List ℕ) → 0 < length (joined (line ∷ codes "\nfound " ∷ more ∷ last ∷ []))
some_behind line more last = some_after line _ _

pub some_cause : (cause : List ℕ) → 0 < length (refused_reply cause).text
some_cause cause = omega arith

-- ---- stops

pub at_stop : {held held' : Option Files} {log log' : Option (List Change)} (steps : List Step) (e : Stop)
    (refusal : EngineAnswer) → SomeDone steps held log held' log' → StopsBy refusal e → TurnStops e steps held held' log log'
at_stop {held = held} {held' = held'} {log = log} {log' = log'} steps e refusal d (inl p) =
    subst (λ x. TurnStops x steps held held' log log') (sym p.0) d
at_stop {held = held} {held' = held'} {log = log} {log' = log'} steps e refusal d (inr p) =
    subst (λ x. TurnStops x steps held held' log log') (sym p) d

pub at_memory : {held held' : Option Files} {log log' : Option (List Change)} (steps : List Step) (e : Stop)
    → SomeDone steps held log held' log' → e ≡ stop.NoMemory → TurnStops e steps held held' log log'
at_memory {held = held} {held' = held'} {log = log} {log' = log'} steps e d p =
    subst (λ x. TurnStops x steps held held' log log') (sym p) d

-- ---- an edit

pub tiles_are : {held : Option Files} {o : Contents} {t : State} → HoldsState held o t → tiles_of o ≡ tiles_in t
tiles_are h = λ i. tile_count_of (h.params_is i).cap (h.rows_is i)

module _ (c : Command) (s : State) (held held' : Option Files) (log log' : Option (List Change)) (o o' : Contents)
    (work work' : ℕ) (edited : word.Edited) (square : Square)
    (line : (t : State) → done_line c t ≡ edited_line_of edited square (tiles_in t)) where
  accepted : (value : Unit {0}) (result : Result Answer Stop) → EditRan (edit_of c) s held held' log log' o' work work' (Ok value)
      → Turned (edit_of c) o o' (Ok value) → Answers (done_reply (edited_line_of edited square (tiles_of o'))) (Ok value) result
      → EditGoes (done_edit c s) held held' log log' o' work work' result
  accepted value (Ok a) ran turned tells = record {
    turn = record {
      status_is = tells.0.status;
      text = tells.0.text ∙ ap (λ n. (done_reply (edited_line_of edited square n)).text) (tiles_are ran.holds)
          ∙ ap (λ text. (done_reply text).text) (sym (line (done_edit c s).next));
      some = some_line (done_line c (done_edit c s).next);
      steps = ran.ran.ok;
      tiles = ran.few;
    };
    holds = ran.holds;
    live = ap (λ x. x.live) turned.ok;
  }
  accepted value (Err e) ran turned tells = at_memory (done_edit c s).steps e (all_some ran.ran.ok) tells.1

  stopped : (refusal : EngineAnswer) (result : Result Answer Stop)
      → EditRan {T = Unit {0}} (edit_of c) s held held' log log' o' work work' (Err refusal)
      → Answers (done_reply (edited_line_of edited square (tiles_of o'))) (Err refusal) result
      → EditGoes (done_edit c s) held held' log log' o' work work' result
  stopped refusal (Ok a) ran tells = absurd (stop_untold refusal a ran.stop tells.0)
  stopped refusal (Err e) ran tells = at_stop (done_edit c s).steps e refusal ran.ran.err tells.1

  turned_down : (refusal : EngineAnswer) (result : Result Answer Stop) → o.live ≡ true → o' ≡ o → held' ≡ held → log' ≡ log
      → work' ≡ work → HoldsState held' o' s
      → Answers (done_reply (edited_line_of edited square (tiles_of o'))) (Err refusal) result
      → EditGoes (refused_edit (cause_of refusal) s) held held' log log' o' work work' result
  turned_down refusal (Ok a) live same held_is log_is work_is holds tells = let says = told_says refusal a tells.0 in record {
    turn = record {
      status_is = says.status;
      text = says.text;
      some = some_cause (cause_of refusal);
      steps = quiet held_is log_is;
      tiles = omega (arith, work_is);
    };
    holds = holds;
    live = ap (λ x. x.live) same ∙ live;
  }
  turned_down refusal (Err e) live same held_is log_is work_is holds tells =
      at_stop [] e refusal (not_yet held_is log_is) tells.1

  by_refusal : (faults faults' : ℕ) (done : Result (Unit {0}) EngineAnswer) (result : Result Answer Stop)
      (r : Option EngineAnswer) → o.live ≡ true → refusal_by_rows c o.rows ≡ r
      → EditedBy r (edit_of c) s held held' log log' o' work work' done
      → ((refusal : EngineAnswer) → refusal_by_rows c o.rows ≡ Some refusal
      → Refused refusal o o' held held' log log' faults faults' work work' done)
      → (refusal_by_rows c o.rows ≡ None → Turned (edit_of c) o o' done)
      → Answers (done_reply (edited_line_of edited square (tiles_of o'))) done result
      → EditGoes (command_reply_by c s r) held held' log log' o' work work' result
  by_refusal faults faults' (Ok value) result None live is ran refused turned tells =
      accepted value result ran (turned is) tells
  by_refusal faults faults' (Err refusal) result None live is ran refused turned tells = stopped refusal result ran tells
  by_refusal faults faults' done result (Some refusal) live is ran refused turned tells =
      let down = refused refusal is in
      let told : Answers (done_reply (edited_line_of edited square (tiles_of o'))) (Err refusal) result =
      subst (λ d. Answers (done_reply (edited_line_of edited square (tiles_of o'))) d result) down.answered tells in
      turned_down refusal result live down.opened down.same_held down.same_log down.same_work ran.holds told

  pub edit_goes : (faults faults' : ℕ) (done : Result (Unit {0}) EngineAnswer) (result : Result Answer Stop)
      → HoldsState held o s → o.live ≡ true → Edited c s held held' log log' o' work work' done
      → ((refusal : EngineAnswer) → refusal_by_rows c o.rows ≡ Some refusal
      → Refused refusal o o' held held' log log' faults faults' work work' done)
      → (refusal_by_rows c o.rows ≡ None → Turned (edit_of c) o o' done)
      → Answers (done_reply (edited_line_of edited square (tiles_of o'))) done result
      → EditGoes (command_reply_by c s (refusal_of c s)) held held' log log' o' work work' result
  edit_goes faults faults' done result h live ran refused turned tells =
      by_refusal faults faults' done result (refusal_of c s) live (refusal_is c s o.rows h.rows_is) ran refused turned tells

-- an edit that is refused before the database is asked
pub refused_goes : (cause : List ℕ) (s : State) (held : Option Files) (log : Option (List Change)) (o : Contents) (work : ℕ)
    (result : Result Answer Stop) → HoldsState held o s → o.live ≡ true → IfOk result (Says (refused_reply cause))
    → OnlyMemory result → EditGoes (refused_edit cause s) held held log log o work work result
refused_goes cause s held log o work (Ok a) holds live says memory = record {
  turn = record { status_is = says.status; text = says.text; some = some_cause cause; steps = quiet refl refl; tiles = omega arith };
  holds = holds;
  live = live;
}
refused_goes cause s held log o work (Err e) holds live says memory = at_memory [] e (not_yet refl refl) memory

-- by what is wanted
pub wanted_as : (a b : Wanted) (s : State) (held held' : Option Files) (log log' : Option (List Change)) (o' : Contents)
    (work work' : ℕ) (result : Result Answer Stop) → a ≡ b
    → EditGoes (wanted_reply a s) held held' log log' o' work work' result
    → EditGoes (wanted_reply b s) held held' log log' o' work work' result
wanted_as a b s held held' log log' o' work work' result e goes =
    subst (λ x. EditGoes (wanted_reply x s) held held' log log' o' work work' result) e goes

-- a file that is asked for is not read
pub edit_unread : (reply : EditReply) (held : Option Files) (log : Option (List Change)) (o : Contents) (work : ℕ) (e : Stop)
    (result : Result Answer Stop) → (e ≡ stop.Input) ⊎ (e ≡ stop.NoMemory) → IsErrAnd result (λ x. x ≡ e)
    → EditGoes reply held held log log o work work result
edit_unread reply held log o work e (Ok a) which err = absurd err
edit_unread reply held log o work e (Err x) (inl p) err =
    subst (λ y. TurnStops y reply.steps held held log log) (sym (err ∙ p)) (refl, refl)
edit_unread reply held log o work e (Err x) (inr p) err =
    subst (λ y. TurnStops y reply.steps held held log log) (sym (err ∙ p)) (not_yet refl refl)
