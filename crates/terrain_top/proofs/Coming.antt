-- How commands come to their last text, and pass when it is printed.
use Rattle.std.proofs.Common.{◌≡◌, ◌⊎◌, ℕ, ◌<◌, ◌≤◌, List, [], ◌∷◌, ◌++◌, length, Option, option_map, Result, Ok, Err, IfErr, IfOk, refl, sym, ap, subst, ◌∙◌, inl, inr, arith, append_assoc}
use Rattle.std.specs.Prelude.{IsErrAnd}
use Rattle.terrain_base.specs.declared.store.Change.{Change}
use Rattle.terrain_base.specs.Sink.{FrontTaken}
use Rattle.terrain_base.specs.Step.{Files}
use Rattle.terrain_base.proofs.Runs.{quiet, not_yet}
use Rattle.top_reply.specs.declared.status.Status.{Status}
use Rattle.top_reply.specs.declared.stop.Stop.{Stop}
use Rattle.top_reply.specs.declared.stop.Stop.TheVariants as stop
use Rattle.top_reply.specs.Course.{Answered, Course, Goes, StopsAt, StopsIn, Turn, TurnsDone, World, said, text_turn, world}
use Rattle.top_reply.specs.Reply.{Reply}
use Rattle.top_reply.specs.Status.{IsAnswer, stop_status}
use Rattle.top_reply.proofs.Courses.{one_turn, stops_here, stops_on, turns_both, turns_none}
use Rattle.terrain_top.specs.declared.answer.Answer.{Answer}
use Rattle.terrain_top.specs.declared.answer.Ending.{Ending}
use Rattle.terrain_top.specs.declared.answer.Ending.TheVariants as ending
use Rattle.terrain_top.specs.Comes.{Comes, Ends, Passes}
use Rattle.terrain_top.specs.Effects.{OnlyMemory}
use Rattle.terrain_top.specs.Says.{Says, status_at, status_by}
use Rattle.terrain_top.specs.Turns.{OnlyTurnGoes, TurnDone, TurnOf, TurnStops}

-- ---- stops

-- nothing of a turn is done
pub not_begun : (turn : Turn) (turns : List Turn) (w w' : World) (e : Stop) → w'.held ≡ w.held → w'.log ≡ w.log
    → w'.taken ≡ w.taken → (e ≡ stop.Input) ⊎ (e ≡ stop.NoMemory) → StopsIn e (turn ∷ turns) w w'
not_begun turn turns w w' e held log taken (inl p) =
    stops_here turns (subst (λ x. StopsAt x turn w w') (sym p) (record { held = held; log = log; taken = taken }))
not_begun turn turns w w' e held log taken (inr p) = stops_here turns
    (subst (λ x. StopsAt x turn w w') (sym p) (inl (record { steps = not_yet held log; taken = taken })))

-- its changes are not made whole
pub in_turn : (turn : Turn) (turns : List Turn) (w w' : World) (e : Stop)
    → TurnStops e turn.steps w.held w'.held w.log w'.log → w'.taken ≡ w.taken → StopsIn e (turn ∷ turns) w w'
in_turn turn turns w w' stop.Input at taken = stops_here turns (record { held = at.0; log = at.1; taken = taken })
in_turn turn turns w w' stop.Store at taken = stops_here turns (record { steps = at; taken = taken })
in_turn turn turns w w' stop.Output at taken = absurd at
in_turn turn turns w w' stop.NoMemory at taken = stops_here turns (inl (record { steps = at; taken = taken }))

-- the text is not printed whole
pub at_text : (turn : Turn) (turns : List Turn) (w w' : World) (e : Stop) → (e ≡ stop.Output) ⊎ (e ≡ stop.NoMemory)
    → StopsAt stop.Output turn w w' → StopsIn e (turn ∷ turns) w w'
at_text turn turns w w' e (inl p) at = stops_here turns (subst (λ x. StopsAt x turn w w') (sym p) at)
at_text turn turns w w' e (inr p) at = stops_here turns (subst (λ x. StopsAt x turn w w') (sym p) (inr at))

-- ---- a course of one turn

only_ends : (status : Status) (turn : Turn) (w w' : World) (a : Answer)
    → TurnDone status turn w.held w'.held w.log w'.log w.work w'.work a → w'.taken ≡ w.taken
    → Ends (record { status = status; turns = turn ∷ [] }) w w' a
only_ends status turn w w' a d taken = record {
  before = [];
  last = turn;
  parts = refl;
  mid = w;
  done = turns_none w;
  steps = d.steps;
  tiles = d.tiles;
  taken = taken;
  some = d.some;
  text = d.text;
  status_is = d.status_is;
}

by_turns : (status : Status) (turns : List Turn) (w w' : World) (result : Result Answer Stop)
    → OnlyTurnGoes status turns w.held w'.held w.log w'.log w.work w'.work result → w'.taken ≡ w.taken
    → Comes (record { status = status; turns = turns }) w w' result
by_turns status [] w w' result goes taken = absurd goes
by_turns status (turn ∷ []) w w' (Ok a) goes taken = only_ends status turn w w' a goes taken
by_turns status (turn ∷ []) w w' (Err e) goes taken = in_turn turn [] w w' e goes taken
by_turns status (turn ∷ next ∷ turns) w w' result goes taken = absurd goes

-- is what its turn is
pub turn_comes : (course : Course) (w w' : World) (result : Result Answer Stop)
    → TurnOf course w.held w'.held w.log w'.log w.work w'.work result → w'.taken ≡ w.taken → Comes course w w' result
turn_comes course w w' result goes taken = by_turns course.status course.turns w w' result goes taken

-- a text and no change
pub said_comes : (reply : Reply) (w w' : World) (result : Result Answer Stop) → IfOk result (Says reply)
    → 0 < length reply.text → w'.held ≡ w.held → w'.log ≡ w.log → w'.taken ≡ w.taken → w'.work ≤ w.work
    → IfErr result (λ e. StopsIn e (text_turn reply.text ∷ []) w w') → Comes (said reply) w w' result
said_comes reply w w' (Ok a) says some held log taken few stops = only_ends reply.status (text_turn reply.text) w w' a
    (record { status_is = says.status; text = says.text; some = some; steps = quiet held log; tiles = omega (arith, few) }) taken
said_comes reply w w' (Err e) says some held log taken few stops = stops

-- by another course that is the same
pub comes_as : (a b : Course) (w w' : World) (result : Result Answer Stop) → a ≡ b → Comes a w w' result → Comes b w w' result
comes_as a b w w' result e comes = subst (λ x. Comes x w w' result) e comes

-- ---- turns that are done before

pub comes_behind : (turns : List Turn) (rest : Course) (w m w' : World) (result : Result Answer Stop) → TurnsDone turns w m
    → Comes rest m w' result → Comes (record { status = rest.status; turns = turns ++ rest.turns }) w w' result
comes_behind turns rest w m w' (Ok a) d e = record {
  before = turns ++ e.before;
  last = e.last;
  parts = ap (λ zs. turns ++ zs) e.parts ∙ sym (append_assoc turns e.before (e.last ∷ []));
  mid = e.mid;
  done = turns_both d e.done;
  steps = e.steps;
  tiles = e.tiles;
  taken = e.taken;
  some = e.some;
  text = e.text;
  status_is = e.status_is;
}
comes_behind turns rest w m w' (Err x) d e = stops_on d e

-- ---- the last text is printed

-- what a stop was passed on as
pub passed_on : (course : Course) (w w' : World) (e : Stop) (result : Result Ending Stop) → IsErrAnd result (λ x. x ≡ e)
    → StopsIn e course.turns w w' → Passes course w w' result
passed_on course w w' e (Ok end) is st = absurd is
passed_on course w w' e (Err x) is st = subst (λ y. StopsIn y course.turns w w') (sym is) st

pub printed : (course : Course) (w m : World) (a : Answer) (taken' : Option (List ℕ)) → Ends course w m a
    → taken' ≡ option_map (λ x. x ++ a.text.items) m.taken
    → Answered course w (world m.held m.log taken' m.work) (status_at a.ending)
printed course w m a taken' e told = record {
  status_is = e.status_is;
  turns = subst (λ turns. TurnsDone turns w (world m.held m.log taken' m.work)) (sym e.parts)
      (turns_both e.done (one_turn e.steps e.tiles (told ∙ (λ i. option_map (λ x. x ++ e.text i) (e.taken i)))));
}

pub not_printed : (course : Course) (w m : World) (a : Answer) (taken' : Option (List ℕ)) (e : Stop) (result : Result Ending Stop)
    → Ends course w m a → (e ≡ stop.Output) ⊎ (e ≡ stop.NoMemory) → FrontTaken m.taken a.text.items taken'
    → IsErrAnd result (λ x. x ≡ e) → Passes course w (world m.held m.log taken' m.work) result
not_printed course w m a taken' e result ends which front is =
    passed_on course w (world m.held m.log taken' m.work) e result is
    (subst (λ turns. StopsIn e turns w (world m.held m.log taken' m.work)) (sym ends.parts)
    (stops_on ends.done (at_text ends.last [] ends.mid (world m.held m.log taken' m.work) e which (record {
      steps = ends.steps;
      some = ends.some;
      front = subst (λ text. FrontTaken ends.mid.taken text taken') ends.text
          (subst (λ t. FrontTaken t a.text.items taken') ends.taken front);
    }))))

-- the status tells how it passed
pub passes_goes : (course : Course) (w w' : World) (result : Result Ending Stop) → Passes course w w' result
    → Goes course w w' (status_by result)
passes_goes course w w' (Ok ending.Done) p = p
passes_goes course w w' (Ok ending.Refused) p = p
passes_goes course w w' (Ok ending.Found) p = p
passes_goes course w w' (Err stop.Input) p = p
passes_goes course w w' (Err stop.Store) p = p
passes_goes course w w' (Err stop.Output) p = p
passes_goes course w w' (Err stop.NoMemory) p = p

-- ---- memory was refused

pub memory_at : {T : Type 0} (e : Stop) (result : Result T Stop) → IsErrAnd result (λ x. x ≡ e) → e ≡ stop.NoMemory
    → IsErrAnd result (λ x. x ≡ stop.NoMemory)
memory_at e (Ok value) err is = absurd err
memory_at e (Err x) err is = err ∙ is

pub memory_says : {T : Type 0} (P : T → Type 0) (result : Result T Stop) → IsErrAnd result (λ e. e ≡ stop.NoMemory) → IfOk result P
memory_says P (Ok value) err = absurd err
memory_says P (Err e) err = tt

pub memory_only : {T : Type 0} (result : Result T Stop) → IsErrAnd result (λ e. e ≡ stop.NoMemory) → OnlyMemory result
memory_only (Ok value) err = absurd err
memory_only (Err e) err = err

-- ---- a text that is printed at once

pub said_done : (reply : Reply) (held : Option Files) (log : Option (List Change)) (taken taken' : Option (List ℕ)) (work : ℕ)
    → taken' ≡ option_map (λ x. x ++ reply.text) taken
    → Answered (said reply) (world held log taken work) (world held log taken' work) reply.status
said_done reply held log taken taken' work told = record { status_is = refl; turns = one_turn (quiet refl refl) (omega arith) told }

pub said_stops : (reply : Reply) (held : Option Files) (log : Option (List Change)) (taken taken' : Option (List ℕ)) (work : ℕ)
    (e : Stop) → (e ≡ stop.Output) ⊎ (e ≡ stop.NoMemory) → 0 < length reply.text → FrontTaken taken reply.text taken'
    → Goes (said reply) (world held log taken work) (world held log taken' work) (stop_status e)
said_stops reply held log taken taken' work stop.Input (inl p) some front = absurd (cc p)
said_stops reply held log taken taken' work stop.Input (inr p) some front = absurd (cc p)
said_stops reply held log taken taken' work stop.Store (inl p) some front = absurd (cc p)
said_stops reply held log taken taken' work stop.Store (inr p) some front = absurd (cc p)
said_stops reply held log taken taken' work stop.Output which some front =
    stops_here [] (record { steps = quiet refl refl; some = some; front = front })
said_stops reply held log taken taken' work stop.NoMemory which some front =
    stops_here [] (inr (record { steps = quiet refl refl; some = some; front = front }))

-- ---- an answer

pub answered : {P : Type 0} (result : Result Ending Stop) → IsAnswer (status_by result) → IfOk result (λ e. P) → P
answered (Ok e) is p = p
answered (Err stop.Input) is p = absurd is
answered (Err stop.Store) is p = absurd is
answered (Err stop.Output) is p = absurd is
answered (Err stop.NoMemory) is p = absurd is
