-- How a script goes.
use Rattle.std.proofs.Common.{◌≡◌, ◌⊎◌, ℕ, List, [], ◌∷◌, ◌++◌, Option, Some, Result, Ok, Err, IfOk, IfSome, refl, sym, ap, subst, ◌∙◌, inr, arith}
use Rattle.std.specs.Prelude.{IsErrAnd, nat_lt}
use Rattle.terrain_base.specs.Library.{LibraryFiles}
use Rattle.top_words.specs.Script.{AreLines, Line}
use Rattle.database.specs.State.{State}
use Rattle.db_engine.specs.Opened.{Contents}
use Rattle.top_reply.specs.declared.stop.Stop.{Stop}
use Rattle.top_reply.specs.declared.stop.Stop.TheVariants as stop
use Rattle.top_reply.specs.Course.{Course, StopsIn, Turn, World, said, text_turn}
use Rattle.top_reply.specs.Database.{IsApplied, IsScript}
use Rattle.top_reply.specs.Edits.{status_by}
use Rattle.top_reply.specs.File.{Found, Bytes, NoFile}
use Rattle.top_reply.specs.Lines.{Numbered, commands_of, done_in, ended_text, lines_course, refused_in, turns_of}
use Rattle.top_reply.specs.Reply.{refused_reply}
use Rattle.top_reply.proofs.Courses.{stops_more, stops_on}
use Rattle.top_reply.proofs.OneLines.{one_list}
use Rattle.terrain_base.proofs.Runs.{quiet}
use Rattle.terrain_top.specs.declared.answer.Answer.{Answer}
use Rattle.terrain_top.specs.declared.script.Tally.{Tally}
use Rattle.terrain_top.specs.Comes.{Comes}
use Rattle.terrain_top.specs.Effects.{OnlyMemory}
use Rattle.terrain_top.specs.LinesGo.{LinesDone, ended_reply}
use Rattle.terrain_top.specs.Says.{Says}
use Rattle.terrain_top.proofs.Coming.{comes_as, not_begun, said_comes}
use Rattle.terrain_top.proofs.EditsGo.{some_cause}

-- what was read is what is held
pub found_as : (read : Found) (books : LibraryFiles) (library : Option LibraryFiles) (finds : LibraryFiles → Found)
    → library ≡ Some books → IfSome library (λ held. read ≡ finds held) → read ≡ finds books
found_as read books library finds is same = subst (λ o. IfSome o (λ held. read ≡ finds held)) is same

-- ---- nothing of it is done

turns_begin : (turns : List Turn) (turn : Turn) (w w' : World) (e : Stop) → w'.held ≡ w.held → w'.log ≡ w.log
    → w'.taken ≡ w.taken → (e ≡ stop.Input) ⊎ (e ≡ stop.NoMemory) → StopsIn e (turns ++ turn ∷ []) w w'
turns_begin [] turn w w' e held log taken which = not_begun turn [] w w' e held log taken which
turns_begin (t ∷ turns) turn w w' e held log taken which = not_begun t (turns ++ turn ∷ []) w w' e held log taken which

as_stop : (course : Course) (w w' : World) (e : Stop) (result : Result Answer Stop) → IsErrAnd result (λ x. x ≡ e)
    → StopsIn e course.turns w w' → Comes course w w' result
as_stop course w w' e (Ok a) is st = absurd is
as_stop course w w' e (Err x) is st = subst (λ y. StopsIn y course.turns w w') (sym is) st

module _ (library : LibraryFiles) (s : State) (course : Course) (w w' : World) (result : Result Answer Stop) where
  pub script_begins : (found : Found) (e : Stop) → IsApplied found library s course → w'.held ≡ w.held → w'.log ≡ w.log
      → w'.taken ≡ w.taken → (e ≡ stop.Input) ⊎ (e ≡ stop.NoMemory) → IsErrAnd result (λ x. x ≡ e) → Comes course w w' result
  script_begins (Bytes bytes) e is held log taken which err =
      let lines = commands_of 1 is.lines in
      as_stop course w w' e result err (subst (λ c. StopsIn e c.turns w w') (sym is.course_is)
      (turns_begin (turns_of library lines s) (text_turn (ended_text (done_in library lines s) (refused_in library lines s)))
      w w' e held log taken which))
  script_begins (NoFile cause) e is held log taken which err =
      as_stop course w w' e result err (subst (λ c. StopsIn e c.turns w w') (sym is)
      (not_begun (text_turn (refused_reply cause).text) [] w w' e held log taken which))

  -- the lines are those that were read
  course_of : (found : Found) (bytes : List ℕ) (lines : List Line) → IsApplied found library s course → Bytes bytes ≡ found
      → AreLines bytes lines → course ≡ lines_course library (commands_of 1 lines) s
  course_of found bytes lines is found_is are =
      let script : IsScript library s bytes course = subst (λ f. IsApplied f library s course) (sym found_is) is in
      script.course_is ∙ ap (λ ls. lines_course library (commands_of 1 ls) s) (one_list bytes script.lines lines script.are are)

  -- it stopped in a line
  pub script_stops : (found : Found) (bytes : List ℕ) (lines : List Line) (e : Stop) → IsApplied found library s course
      → Bytes bytes ≡ found → AreLines bytes lines → StopsIn e (turns_of library (commands_of 1 lines) s) w w'
      → IsErrAnd result (λ x. x ≡ e) → Comes course w w' result
  script_stops found bytes lines e is found_is are st err =
      let ns = commands_of 1 lines in
      as_stop course w w' e result err
      (subst (λ c. StopsIn e c.turns w w') (sym (course_of found bytes lines is found_is are))
      (stops_more (text_turn (ended_text (done_in library ns s) (refused_in library ns s)) ∷ []) st))

  -- the lines are done
  lines_end : (ns : List Numbered) (o : Contents) (tally : Tally) (r : Result Answer Stop)
      → LinesDone library ns s w w' o tally → IfOk r (Says (ended_reply tally.done tally.refused)) → OnlyMemory r
      → Comes (lines_course library ns s) w w' r
  lines_end ns o tally (Ok a) d says memory = record {
    before = turns_of library ns s;
    last = text_turn (ended_text (done_in library ns s) (refused_in library ns s));
    parts = refl;
    mid = w';
    done = d.turns;
    steps = quiet refl refl;
    tiles = omega arith;
    taken = refl;
    some = omega arith;
    text = says.text ∙ (λ i. ended_text (d.done i) (d.refused i));
    status_is = says.status ∙ ap (λ n. status_by (nat_lt 0 n)) d.refused;
  }
  lines_end ns o tally (Err e) d says memory =
      stops_on d.turns (not_begun (text_turn (ended_text (done_in library ns s) (refused_in library ns s))) [] w' w' e
      refl refl refl (inr memory))

  pub script_ends : (found : Found) (bytes : List ℕ) (lines : List Line) (o : Contents) (tally : Tally)
      → IsApplied found library s course → Bytes bytes ≡ found → AreLines bytes lines
      → LinesDone library (commands_of 1 lines) s w w' o tally
      → IfOk result (Says (ended_reply tally.done tally.refused)) → OnlyMemory result → Comes course w w' result
  script_ends found bytes lines o tally is found_is are d says memory =
      comes_as (lines_course library (commands_of 1 lines) s) course w w' result
      (sym (course_of found bytes lines is found_is are)) (lines_end (commands_of 1 lines) o tally result d says memory)

  -- there is no script
  refused_stop : (cause : List ℕ) (r : Result Answer Stop) → w'.held ≡ w.held → w'.log ≡ w.log → w'.taken ≡ w.taken
      → w'.work ≡ w.work → IfOk r (Says (refused_reply cause)) → OnlyMemory r → Comes (said (refused_reply cause)) w w' r
  refused_stop cause (Ok a) held log taken work says memory =
      said_comes (refused_reply cause) w w' (Ok a) says (some_cause cause) held log taken (omega (arith, work)) tt
  refused_stop cause (Err e) held log taken work says memory =
      not_begun (text_turn (refused_reply cause).text) [] w w' e held log taken (inr memory)

  pub no_script : (found : Found) (cause : List ℕ) → IsApplied found library s course → NoFile cause ≡ found
      → w'.held ≡ w.held → w'.log ≡ w.log → w'.taken ≡ w.taken → w'.work ≡ w.work
      → IfOk result (Says (refused_reply cause)) → OnlyMemory result → Comes course w w' result
  no_script found cause is found_is held log taken work says memory =
      comes_as (said (refused_reply cause)) course w w' result
      (sym (subst (λ f. IsApplied f library s course) (sym found_is) is))
      (refused_stop cause result held log taken work says memory)

-- ---- what holds anyway

pub on_ok : {T E P : Type 0} (result : Result T E) → P → IfOk result (λ value. P)
on_ok (Ok value) p = p
on_ok (Err e) p = tt
