-- What a line comes to, and how lines follow each other.
use Rattle.std.proofs.Common.{◌≡◌, ◌⊎◌, ℕ, ◌+◌, ◌<◌, ◌≤◌, Bool, true, false, List, [], ◌∷◌, ◌++◌, length, take, drop, get_or, map, Some, None, option_map, Result, Ok, Err, IfErr, refl, sym, ap, subst, ◌∙◌, arith, add-zero, zero-add}
use Rattle.std.specs.Prelude.{IsErrAnd, cond}
use Rattle.std.proofs.lemmas.List.{take_all, take_more, map-append, length-map, length-take-le, take-append-drop}
use Rattle.terrain_base.specs.Library.{LibraryFiles}
use Rattle.terrain_base.specs.Sink.{FrontTaken}
use Rattle.top_words.specs.Script.{Line, Passed, Change, NoCommand}
use Rattle.database.specs.State.{State}
use Rattle.db_engine.specs.Holding.{HoldsState}
use Rattle.db_engine.specs.Opened.{Contents}
use Rattle.db_report.specs.Done.{script_mark_of}
use Rattle.top_reply.specs.declared.stop.Stop.{Stop}
use Rattle.top_reply.specs.declared.stop.Stop.TheVariants as stop
use Rattle.top_reply.specs.Course.{StopsIn, TurnsDone, World}
use Rattle.top_reply.specs.Edits.{Wanted, status_by, wanted_reply}
use Rattle.top_reply.specs.Lines.{Numbered, after_lines, commands_of, done_in, line_reply, refused_in, turn_by, turns_of, wanted_at}
use Rattle.top_reply.proofs.Courses.{one_turn, stops_more, stops_on, turns_both, turns_none}
use Rattle.terrain_top.specs.declared.answer.Answer.{Answer}
use Rattle.terrain_top.specs.declared.answer.Ending.{Ending}
use Rattle.terrain_top.specs.declared.answer.Ending.TheVariants as ending
use Rattle.terrain_top.specs.declared.script.LinesAnswer.{LinesAnswer}
use Rattle.terrain_top.specs.declared.script.LinesAnswer.TheVariants.{All, Ended}
use Rattle.terrain_top.specs.declared.script.Tally.{Tally}
use Rattle.terrain_top.specs.EditGoes.{EditDone}
use Rattle.terrain_top.specs.LinesGo.{LinesDone, LinesGo, LineTold, line_wanted, tally_at}
use Rattle.terrain_top.specs.Says.{status_at}
use Rattle.terrain_top.specs.Turns.{TurnStops}
use Rattle.terrain_top.proofs.Coming.{at_text, in_turn, not_begun}

-- ---- the counts of one line

done_one : (end : Ending) (refused : Bool) → status_at end ≡ status_by refused → (tally_at end).done ≡ cond refused 0 1 + 0
done_one ending.Done false e = refl
done_one ending.Done true e = absurd (cc e)
done_one ending.Refused false e = absurd (cc e)
done_one ending.Refused true e = refl
done_one ending.Found false e = absurd (cc e)
done_one ending.Found true e = refl

refused_one : (end : Ending) (refused : Bool) → status_at end ≡ status_by refused → (tally_at end).refused ≡ cond refused 1 0 + 0
refused_one ending.Done false e = refl
refused_one ending.Done true e = absurd (cc e)
refused_one ending.Refused false e = absurd (cc e)
refused_one ending.Refused true e = refl
refused_one ending.Found false e = absurd (cc e)
refused_one ending.Found true e = refl

-- ---- one line

module _ (library : LibraryFiles) (number : ℕ) where
  -- a line that asks for this is one command
  of_line : (P : List Numbered → Type 0) (line : Line) (want : Wanted) → Some want ≡ line_wanted line library
      → ((n : Numbered) → n.number ≡ number → wanted_at n.edit library ≡ want → P (n ∷ [])) → P (commands_of number (line ∷ []))
  of_line P Passed want is p = absurd (cc is)
  of_line P (Change edit) want is p = p (record { number = number; edit = Some edit }) refl (cc is)
  of_line P NoCommand want is p = p (record { number = number; edit = None }) refl (cc is)

  -- the file could not be read
  pub read_stops : (line : Line) (s : State) (w w' : World) (o : Contents) (e : Stop) (r : Result LinesAnswer Stop)
      → w'.held ≡ w.held → w'.log ≡ w.log → w'.taken ≡ w.taken → (line ≡ Passed → ⊥) → (e ≡ stop.Input) ⊎ (e ≡ stop.NoMemory)
      → IsErrAnd r (λ x. x ≡ e) → LinesGo library (commands_of number (line ∷ [])) s w w' o r
  read_stops line s w w' o e (Ok t) held log taken some which is = absurd is
  read_stops Passed s w w' o e (Err x) held log taken some which is = absurd (some refl)
  read_stops (Change edit) s w w' o e (Err x) held log taken some which is =
      subst (λ y. StopsIn y (turns_of library (commands_of number (Change edit ∷ [])) s) w w') (sym is)
      (not_begun (turn_by number (line_reply library (record { number = number; edit = Some edit }) s)) [] w w' e held log taken which)
  read_stops NoCommand s w w' o e (Err x) held log taken some which is =
      subst (λ y. StopsIn y (turns_of library (commands_of number (NoCommand ∷ [])) s) w w') (sym is)
      (not_begun (turn_by number (line_reply library (record { number = number; edit = None }) s)) [] w w' e held log taken which)

  -- the edit stopped
  carried : (s : State) (w w' : World) (want : Wanted) (e : Stop)
      → TurnStops e (wanted_reply want s).steps w.held w'.held w.log w'.log → w'.taken ≡ w.taken
      → (n : Numbered) → n.number ≡ number → wanted_at n.edit library ≡ want → StopsIn e (turns_of library (n ∷ []) s) w w'
  carried s w w' want e at taken n p q = in_turn (turn_by n.number (line_reply library n s)) [] w w' e
      (subst (λ x. TurnStops e (wanted_reply x s).steps w.held w'.held w.log w'.log) (sym q) at) taken

  pub carry_stops : (line : Line) (s : State) (w w' : World) (o : Contents) (want : Wanted) (e : Stop) (r : Result LinesAnswer Stop)
      → Some want ≡ line_wanted line library → TurnStops e (wanted_reply want s).steps w.held w'.held w.log w'.log
      → w'.taken ≡ w.taken → IsErrAnd r (λ x. x ≡ e) → LinesGo library (commands_of number (line ∷ [])) s w w' o r
  carry_stops line s w w' o want e (Ok t) want_is at taken is = absurd is
  carry_stops line s w w' o want e (Err x) want_is at taken is =
      of_line (λ ns. StopsIn x (turns_of library ns s) w w') line want want_is
      (carried s w w' want x (subst (λ y. TurnStops y (wanted_reply want s).steps w.held w'.held w.log w'.log) (sym is) at) taken)

  -- the line is done, and told
  text_is : (n : Numbered) (s : State) (want : Wanted) (a : Answer) → n.number ≡ number → wanted_at n.edit library ≡ want
      → a.text.items ≡ (wanted_reply want s).text
      → script_mark_of number ++ a.text.items ≡ (turn_by n.number (line_reply library n s)).text
  text_is n s want a p q t = λ i. script_mark_of (sym p i) ++ (t ∙ ap (λ x. (wanted_reply x s).text) (sym q)) i

  line_done : (line : Line) (s : State) (w w' : World) (o : Contents) (want : Wanted) (a : Answer) (tally : Tally)
      → Some want ≡ line_wanted line library
      → EditDone (wanted_reply want s) w.held w'.held w.log w'.log o w.work w'.work a
      → w'.taken ≡ option_map (λ x. x ++ (script_mark_of number ++ a.text.items)) w.taken → tally ≡ tally_at a.ending
      → LinesDone library (commands_of number (line ∷ [])) s w w' o tally
  line_done line s w w' o want a tally want_is d told counts =
      of_line (λ ns. LinesDone library ns s w w' o tally) line want want_is
      (λ n p q. let e = subst (λ x. EditDone (wanted_reply x s) w.held w'.held w.log w'.log o w.work w'.work a) (sym q) d in record {
        turns = one_turn e.turn.steps e.turn.tiles
            (told ∙ ap (λ text. option_map (λ x. x ++ text) w.taken) (text_is n s want a p q d.turn.text));
        holds = e.holds;
        done = ap (λ t. t.done) counts ∙ done_one a.ending (line_reply library n s).refused e.turn.status_is;
        refused = ap (λ t. t.refused) counts ∙ refused_one a.ending (line_reply library n s).refused e.turn.status_is;
      })

  not_told : (line : Line) (s : State) (w w' : World) (o : Contents) (want : Wanted) (a : Answer) (e : Stop)
      → Some want ≡ line_wanted line library
      → EditDone (wanted_reply want s) w.held w'.held w.log w'.log o w.work w'.work a
      → FrontTaken w.taken (script_mark_of number ++ a.text.items) w'.taken → (e ≡ stop.Output) ⊎ (e ≡ stop.NoMemory)
      → StopsIn e (turns_of library (commands_of number (line ∷ [])) s) w w'
  not_told line s w w' o want a e want_is d front which =
      of_line (λ ns. StopsIn e (turns_of library ns s) w w') line want want_is
      (λ n p q. let f = subst (λ x. EditDone (wanted_reply x s) w.held w'.held w.log w'.log o w.work w'.work a) (sym q) d in
      at_text (turn_by n.number (line_reply library n s)) [] w w' e which (record {
        steps = f.turn.steps;
        some = omega arith;
        front = subst (λ text. FrontTaken w.taken text w'.taken) (text_is n s want a p q d.turn.text) front;
      }))

  pub line_told : (line : Line) (s : State) (w w' : World) (o : Contents) (want : Wanted) (a : Answer) (live : Bool)
      (r : Result LinesAnswer Stop) → Some want ≡ line_wanted line library
      → EditDone (wanted_reply want s) w.held w'.held w.log w'.log o w.work w'.work a → live ≡ o.live
      → LineTold live number a w.taken w'.taken r → IfErr r (λ e. (e ≡ stop.Output) ⊎ (e ≡ stop.NoMemory))
      → LinesGo library (commands_of number (line ∷ [])) s w w' o r
  line_told line s w w' o want a live (Ok (All tally)) want_is d live_is told which =
      line_done line s w w' o want a tally want_is d told.0 told.1
  line_told line s w w' o want a live (Ok (Ended last)) want_is d live_is told which =
      absurd (cc (sym told ∙ live_is ∙ d.live))
  line_told line s w w' o want a live (Err e) want_is d live_is told which = not_told line s w w' o want a e want_is d told which

  -- it is passed over
  pub line_passed : (line : Line) (s : State) (w : World) (o : Contents) (tally : Tally) → None ≡ line_wanted line library
      → HoldsState w.held o s → tally.done ≡ 0 → tally.refused ≡ 0
      → LinesDone library (commands_of number (line ∷ [])) s w w o tally
  line_passed Passed s w o tally is h d r = record { turns = turns_none w; holds = h; done = d; refused = r }
  line_passed (Change edit) s w o tally is h d r = absurd (cc is)
  line_passed NoCommand s w o tally is h d r = absurd (cc is)

-- ---- lines

pub commands-append : (n : ℕ) (xs ys : List Line)
    → commands_of n (xs ++ ys) ≡ commands_of n xs ++ commands_of (n + length xs) ys
commands-append n [] ys = ap (λ m. commands_of m ys) (sym (add-zero n))
commands-append n (Passed ∷ xs) ys =
    commands-append (n + 1) xs ys ∙ ap (λ m. commands_of (n + 1) xs ++ commands_of m ys) (omega arith)
commands-append n (Change edit ∷ xs) ys = ap (λ ns. record { number = n; edit = Some edit } ∷ ns)
    (commands-append (n + 1) xs ys ∙ ap (λ m. commands_of (n + 1) xs ++ commands_of m ys) (omega arith))
commands-append n (NoCommand ∷ xs) ys = ap (λ ns. record { number = n; edit = None } ∷ ns)
    (commands-append (n + 1) xs ys ∙ ap (λ m. commands_of (n + 1) xs ++ commands_of m ys) (omega arith))

module _ (library : LibraryFiles) where
  turns_of-append : (xs ys : List Numbered) (s : State)
      → turns_of library (xs ++ ys) s ≡ turns_of library xs s ++ turns_of library ys (after_lines library xs s)
  turns_of-append [] ys s = refl
  turns_of-append (x ∷ xs) ys s =
      ap (λ ts. turn_by x.number (line_reply library x s) ∷ ts) (turns_of-append xs ys (line_reply library x s).next)

  after-append : (xs ys : List Numbered) (s : State)
      → after_lines library (xs ++ ys) s ≡ after_lines library ys (after_lines library xs s)
  after-append [] ys s = refl
  after-append (x ∷ xs) ys s = after-append xs ys (line_reply library x s).next

  done-append : (xs ys : List Numbered) (s : State)
      → done_in library (xs ++ ys) s ≡ done_in library xs s + done_in library ys (after_lines library xs s)
  done-append [] ys s = sym (zero-add (done_in library ys s))
  done-append (x ∷ xs) ys s = let rest = done-append xs ys (line_reply library x s).next in omega (arith, rest)

  refused-append : (xs ys : List Numbered) (s : State)
      → refused_in library (xs ++ ys) s ≡ refused_in library xs s + refused_in library ys (after_lines library xs s)
  refused-append [] ys s = sym (zero-add (refused_in library ys s))
  refused-append (x ∷ xs) ys s = let rest = refused-append xs ys (line_reply library x s).next in omega (arith, rest)

  lines_both : (xs ys : List Numbered) (s : State) (w m w' : World) (o o' : Contents) (t u v : Tally)
      → v.done ≡ t.done + u.done → v.refused ≡ t.refused + u.refused → LinesDone library xs s w m o t
      → LinesDone library ys (after_lines library xs s) m w' o' u → LinesDone library (xs ++ ys) s w w' o' v
  lines_both xs ys s w m w' o o' t u v d r a b = record {
    turns = subst (λ ts. TurnsDone ts w w') (sym (turns_of-append xs ys s)) (turns_both a.turns b.turns);
    holds = subst (λ x. HoldsState w'.held o' x) (sym (after-append xs ys s)) b.holds;
    done = d ∙ (λ i. a.done i + b.done i) ∙ sym (done-append xs ys s);
    refused = r ∙ (λ i. a.refused i + b.refused i) ∙ sym (refused-append xs ys s);
  }

  lines_stop : (xs ys : List Numbered) (s : State) (w m w' : World) (o : Contents) (t : Tally) (e : Stop)
      → LinesDone library xs s w m o t → StopsIn e (turns_of library ys (after_lines library xs s)) m w'
      → StopsIn e (turns_of library (xs ++ ys) s) w w'
  lines_stop xs ys s w m w' o t e a st =
      subst (λ ts. StopsIn e ts w w') (sym (turns_of-append xs ys s)) (stops_on a.turns st)

  lines_more : (xs ys : List Numbered) (s : State) (w w' : World) (e : Stop) → StopsIn e (turns_of library xs s) w w'
      → StopsIn e (turns_of library (xs ++ ys) s) w w'
  lines_more xs ys s w w' e st = subst (λ ts. StopsIn e ts w w') (sym (turns_of-append xs ys s))
      (stops_more (turns_of library ys (after_lines library xs s)) st)

-- the lines up to one and that one
lines_to : {X : Type 0} (m : X → Line) (xs : List X) (i : ℕ) (x : X) → i < length xs → x ≡ get_or xs i x
    → commands_of 1 (map m (take (i + 1) xs)) ≡ commands_of 1 (map m (take i xs)) ++ commands_of (i + 1) (m x ∷ [])
lines_to m xs i x lt is =
    ap (λ ys. commands_of 1 (map m ys)) (take_more xs i x lt ∙ ap (λ y. take i xs ++ y ∷ []) (sym is))
    ∙ ap (commands_of 1) (map-append m (take i xs) (x ∷ []))
    ∙ commands-append 1 (map m (take i xs)) (m x ∷ [])
    ∙ ap (λ n. commands_of 1 (map m (take i xs)) ++ commands_of n (m x ∷ []))
    (omega (arith, length-map (take i xs) m, length-take-le i xs (omega arith)))

-- the lines up to one, and the others
lines_split : {X : Type 0} (m : X → Line) (xs : List X) (i : ℕ) → commands_of 1 (map m xs)
    ≡ commands_of 1 (map m (take i xs)) ++ commands_of (1 + length (map m (take i xs))) (map m (drop i xs))
lines_split m xs i =
    ap (λ ys. commands_of 1 (map m ys)) (sym (take-append-drop i xs))
    ∙ ap (commands_of 1) (map-append m (take i xs) (drop i xs))
    ∙ commands-append 1 (map m (take i xs)) (map m (drop i xs))

-- one line more is done, or stops
module _ {X : Type 0} (m : X → Line) (library : LibraryFiles) (xs : List X) (i : ℕ) (x : X) (lt : i < length xs)
    (is : x ≡ get_or xs i x) (s : State) (w mid w' : World) (o o' : Contents) where
  pub line_more : (t u v : Tally) → v.done ≡ t.done + u.done → v.refused ≡ t.refused + u.refused
      → LinesDone library (commands_of 1 (map m (take i xs))) s w mid o t
      → LinesDone library (commands_of (i + 1) (m x ∷ [])) (after_lines library (commands_of 1 (map m (take i xs))) s) mid w' o' u
      → LinesDone library (commands_of 1 (map m (take (i + 1) xs))) s w w' o' v
  line_more t u v d r a b =
      subst (λ ns. LinesDone library ns s w w' o' v) (sym (lines_to m xs i x lt is))
      (lines_both library (commands_of 1 (map m (take i xs))) (commands_of (i + 1) (m x ∷ [])) s w mid w' o o' t u v d r a b)

  stop_more : (t : Tally) (e : Stop) → LinesDone library (commands_of 1 (map m (take i xs))) s w mid o t
      → StopsIn e (turns_of library (commands_of (i + 1) (m x ∷ [])) (after_lines library (commands_of 1 (map m (take i xs))) s)) mid w'
      → StopsIn e (turns_of library (commands_of 1 (map m (take (i + 1) xs))) s) w w'
  stop_more t e a st =
      subst (λ ns. StopsIn e (turns_of library ns s) w w') (sym (lines_to m xs i x lt is))
      (lines_stop library (commands_of 1 (map m (take i xs))) (commands_of (i + 1) (m x ∷ [])) s w mid w' o t e a st)

  pub line_stops : (t : Tally) (e : Stop) (r : Result LinesAnswer Stop)
      → LinesDone library (commands_of 1 (map m (take i xs))) s w mid o t
      → StopsIn e (turns_of library (commands_of (i + 1) (m x ∷ [])) (after_lines library (commands_of 1 (map m (take i xs))) s)) mid w'
      → IsErrAnd r (λ y. y ≡ e) → LinesGo library (commands_of 1 (map m xs)) s w w' o' r
  line_stops t e (Ok u) a st is_e = absurd is_e
  line_stops t e (Err y) a st is_e =
      subst (λ ns. StopsIn y (turns_of library ns s) w w') (sym (lines_split m xs (i + 1)))
      (lines_more library (commands_of 1 (map m (take (i + 1) xs)))
      (commands_of (1 + length (map m (take (i + 1) xs))) (map m (drop (i + 1) xs))) s w w' y
      (subst (λ z. StopsIn z (turns_of library (commands_of 1 (map m (take (i + 1) xs))) s) w w') (sym is_e) (stop_more t e a st)))

-- all of them are done
pub lines_all : {X : Type 0} (m : X → Line) (library : LibraryFiles) (xs : List X) (i : ℕ) → length xs ≤ i → (s : State)
    (w w' : World) (o : Contents) (t : Tally) → LinesDone library (commands_of 1 (map m (take i xs))) s w w' o t
    → LinesDone library (commands_of 1 (map m xs)) s w w' o t
lines_all m library xs i past s w w' o t d =
    subst (λ ys. LinesDone library (commands_of 1 (map m ys)) s w w' o t) (take_all i xs past) d
