-- Turns that lead from state to state: where a run of them stops, and where it ends.
use Rattle.std.proofs.Common.{◌≡◌, ◌⊎◌, ℕ, suc, ◌-◌, ◌≤◌, List, [], ◌∷◌, ◌++◌, length, take, Option, Some, None, refl, sym, ap, subst, ◌∙◌, inl, inr, arith}
use Rattle.std.specs.Prelude.{IsSomeAnd}
use Rattle.terrain_base.specs.Step.{Files, Step, changed}
use Rattle.terrain_base.specs.Overwrite.{all_changed}
use Rattle.terrain_base.specs.Run.{SomeDone, AllDone, files_after}
use Rattle.terrain_base.proofs.Overwrites.{files_of_told}
use Rattle.database.specs.State.{State}
use Rattle.top_reply.specs.declared.stop.Stop.{Stop}
use Rattle.top_reply.specs.declared.stop.Stop.TheVariants as stop
use Rattle.top_reply.specs.Course.{World, Turn, quiet_turn, steps_of, TurnsDone, StopsAt, StopsIn}
use Rattle.top_reply.specs.Passed.{state_at, Stopped, StopsBetween}

pub changed_append : (xs ys : List Step) (files : Files)
    → all_changed (xs ++ ys) files ≡ all_changed ys (all_changed xs files)
changed_append [] ys files = refl
changed_append (x ∷ xs) ys files = changed_append xs ys (changed x files)

-- The steps lead these files from a state to the next: they are those of the first before them, those of the second
-- behind them, and between them those of either.
pub record Leads (Is : Files → State → Type 0) (steps : List Step) (files : Files) (s t : State) : Type 0 where
  pub begins : Is files s
  pub fronts : (n : ℕ) → n ≤ length steps
      → Is (all_changed (take n steps) files) s ⊎ Is (all_changed (take n steps) files) t
  pub ends : Is (all_changed steps files) t

-- turns lead these files through states, and the last files are those of the last state, as `Ends` says
abbrev pub Path : (Files → State → Type 0) → (Files → State → Type 0) → Files → State → List Turn → List State → Type 0
Path Is Ends files s [] [] = Ends files s
Path Is Ends files s [] (t ∷ states) = ⊥
Path Is Ends files s (turn ∷ turns) [] = ⊥
Path Is Ends files s (turn ∷ turns) (t ∷ states) =
    Leads Is turn.steps files s t × Path Is Ends (all_changed turn.steps files) t turns states

-- the last of them
abbrev pub last_of : State → List State → State
last_of s [] = s
last_of s (t ∷ states) = last_of t states

pub last_behind : (states : List State) (s t : State) → last_of s (states ++ t ∷ []) ≡ t
last_behind [] s t = refl
last_behind (first ∷ states) s t = last_behind states first t

-- ---- what is held

-- where files are told, so are those after all steps
pub told_after : (steps : List Step) (held held' : Option Files) (files : Files) → held ≡ Some files
    → held' ≡ files_after steps held → held' ≡ Some (all_changed steps files)
told_after steps held held' files is after = after ∙ ap (files_after steps) is ∙ files_of_told steps files

some_is : (P : Files → Type 0) (held : Option Files) (files : Files) → held ≡ Some files → P files → IsSomeAnd held P
some_is P held files is holds = subst (λ o. IsSomeAnd o P) (sym is) holds

first_is : (P Q : Files → Type 0) (held : Option Files) → IsSomeAnd held P → IsSomeAnd held (λ files. P files ⊎ Q files)
first_is P Q None holds = absurd holds
first_is P Q (Some files) holds = inl holds

second_is : (P Q : Files → Type 0) (held : Option Files) → IsSomeAnd held Q
    → IsSomeAnd held (λ files. P files ⊎ Q files)
second_is P Q None holds = absurd holds
second_is P Q (Some files) holds = inr holds

either_is : (P Q R : Files → Type 0) (held : Option Files) → ((files : Files) → Q files → P files)
    → ((files : Files) → R files → P files) → IsSomeAnd held (λ files. Q files ⊎ R files) → IsSomeAnd held P
either_is P Q R None left right holds = absurd holds
either_is P Q R (Some files) left right (inl holds) = left files holds
either_is P Q R (Some files) left right (inr holds) = right files holds

one_is : (P : Files → Type 0) (held : Option Files) → IsSomeAnd held (λ files. P files ⊎ P files) → IsSomeAnd held P
one_is P None holds = absurd holds
one_is P (Some files) (inl holds) = holds
one_is P (Some files) (inr holds) = holds

module _ (Is Ends : Files → State → Type 0) where
  -- ---- one turn

  -- a stop leaves files of the one state or the other, of the first where the library was asked, and of the second
  -- where the report was put
  record Between (e : Stop) (s t : State) (held' : Option Files) : Type 0 where
    between : IsSomeAnd held' (λ files. Is files s ⊎ Is files t)
    input : e ≡ stop.Input → IsSomeAnd held' (λ files. Is files s)
    output : e ≡ stop.Output → IsSomeAnd held' (λ files. Is files t)

  in_steps : (turn : Turn) (files : Files) (s t : State) (w w' : World) → Leads Is turn.steps files s t
      → w.held ≡ Some files → SomeDone turn.steps w.held w.log w'.held w'.log → IsSomeAnd w'.held (λ now. Is now s ⊎ Is now t)
  in_steps turn files s t w w' leads is some =
      some_is (λ now. Is now s ⊎ Is now t) w'.held (all_changed (take some.done turn.steps) files)
      (told_after (take some.done turn.steps) w.held w'.held files is some.held) (leads.fronts some.done some.done_of)

  all_steps : (turn : Turn) (files : Files) (s t : State) (w w' : World) → Leads Is turn.steps files s t
      → w.held ≡ Some files → AllDone turn.steps w.held w.log w'.held w'.log → IsSomeAnd w'.held (λ now. Is now t)
  all_steps turn files s t w w' leads is all =
      some_is (λ now. Is now t) w'.held (all_changed turn.steps files)
      (told_after turn.steps w.held w'.held files is all.held) leads.ends

  among : (e : Stop) (s t : State) (held' : Option Files) → (e ≡ stop.Input → ⊥) → (e ≡ stop.Output → ⊥)
      → IsSomeAnd held' (λ files. Is files s ⊎ Is files t) → Between e s t held'
  among e s t held' no_input no_output holds = record {
    between = holds;
    input = λ is. absurd (no_input is);
    output = λ is. absurd (no_output is);
  }

  behind : (e : Stop) (s t : State) (held' : Option Files) → (e ≡ stop.Input → ⊥)
      → IsSomeAnd held' (λ files. Is files t) → Between e s t held'
  behind e s t held' no_input holds = record {
    between = second_is (λ files. Is files s) (λ files. Is files t) held' holds;
    input = λ is. absurd (no_input is);
    output = λ is. holds;
  }

  turn_stops : (e : Stop) (turn : Turn) (files : Files) (s t : State) (w w' : World) → Leads Is turn.steps files s t
      → w.held ≡ Some files → StopsAt e turn w w' → Between e s t w'.held
  turn_stops stop.Input turn files s t w w' leads is at =
      let same = some_is (λ now. Is now s) w'.held files (at.held ∙ is) leads.begins in record {
        between = first_is (λ now. Is now s) (λ now. Is now t) w'.held same;
        input = λ e. same;
        output = λ e. absurd (cc e);
      }
  turn_stops stop.Store turn files s t w w' leads is at =
      among stop.Store s t w'.held (λ e. cc e) (λ e. cc e) (in_steps turn files s t w w' leads is at.steps)
  turn_stops stop.Output turn files s t w w' leads is at =
      behind stop.Output s t w'.held (λ e. cc e) (all_steps turn files s t w w' leads is at.steps)
  turn_stops stop.NoMemory turn files s t w w' leads is (inl at) =
      among stop.NoMemory s t w'.held (λ e. cc e) (λ e. cc e) (in_steps turn files s t w w' leads is at.steps)
  turn_stops stop.NoMemory turn files s t w w' leads is (inr at) =
      behind stop.NoMemory s t w'.held (λ e. cc e) (all_steps turn files s t w w' leads is at.steps)

  -- ---- turns one after the other

  -- where a turn behind others leads
  at_turn : (before : List Turn) (turn : Turn) (later : List Turn) (s : State) (states : List State) (files : Files)
      → Path Is Ends files s (before ++ turn ∷ later) states
      → Leads Is turn.steps (all_changed (steps_of before) files) (state_at s states (length before))
      (state_at s states (suc (length before)))
  at_turn [] turn later s [] files path = absurd path
  at_turn [] turn later s (t ∷ states) files path = path.0
  at_turn (first ∷ before) turn later s [] files path = absurd path
  at_turn (first ∷ before) turn later s (t ∷ states) files path =
      subst (λ now. Leads Is turn.steps now (state_at t states (length before))
      (state_at t states (suc (length before))))
      (sym (changed_append first.steps (steps_of before) files))
      (at_turn before turn later t states (all_changed first.steps files) path.1)

  at_stop : (e : Stop) (before : List Turn) (turn : Turn) (later : List Turn) (s : State) (states : List State)
      (files : Files) (w mid w' : World) → Path Is Ends files s (before ++ turn ∷ later) states → w.held ≡ Some files
      → TurnsDone before w mid → StopsAt e turn mid w'
      → Between e (state_at s states (length before)) (state_at s states (suc (length before))) w'.held
  at_stop e before turn later s states files w mid w' path is done at =
      turn_stops e turn (all_changed (steps_of before) files) (state_at s states (length before))
      (state_at s states (suc (length before))) mid w' (at_turn before turn later s states files path)
      (told_after (steps_of before) w.held mid.held files is done.steps.held) at

  -- ---- behind a first turn that keeps the state and prints nothing

  silent : (e : Stop) (turn : Turn) (w w' : World) → turn.text ≡ [] → StopsAt e turn w w' → e ≡ stop.Output → ⊥
  silent e turn w w' none at is =
      let put = subst (λ x. StopsAt x turn w w') is at in
      let some = put.some in
      let length_is : length turn.text ≡ 0 = ap length none in omega (arith, some, length_is)

  first_turn : (a b : Turn) (rest later : List Turn) → a ∷ rest ≡ b ∷ later → b ≡ a
  first_turn a b rest later same = cc

  stopped_at : (e : Stop) (before : List Turn) (turn : Turn) (later : List Turn) (steps : List Step) (tiles : ℕ)
      (rest : List Turn) (s : State) (states : List State) (files : Files) (w mid w' : World)
      → quiet_turn steps tiles ∷ rest ≡ before ++ turn ∷ later
      → Path Is Ends files s (before ++ turn ∷ later) (s ∷ states) → w.held ≡ Some files → TurnsDone before w mid → StopsAt e turn mid w'
      → Stopped Is e s states (length before - 1) w'.held
  stopped_at e [] turn later steps tiles rest s states files w mid w' parts path is done at =
      let r = at_stop e [] turn later s (s ∷ states) files w mid w' path is done at in
      let none = ap (λ (x : Turn). x.text) (first_turn (quiet_turn steps tiles) turn rest later parts) in
      let same = one_is (λ now. Is now s) w'.held r.between in record {
        between = first_is (λ now. Is now s) (λ now. Is now (state_at s states 1)) w'.held same;
        input = λ e. same;
        output = λ is. absurd (silent e turn mid w' none at is);
      }
  stopped_at e (first ∷ before) turn later steps tiles rest s states files w mid w' parts path is done at =
      let r = at_stop e (first ∷ before) turn later s (s ∷ states) files w mid w' path is done at in
      let count : length before ≡ length (first ∷ before) - 1 = omega arith in
      subst (λ n. Stopped Is e s states n w'.held) count
      (record { between = r.between; input = r.input; output = r.output })

  -- where the sink took anything of the turn, its changes are made
  if_printed : (e : Stop) (turn : Turn) (files : Files) (s t : State) (w w' : World) → Leads Is turn.steps files s t
      → w.held ≡ Some files → StopsAt e turn w w' → (w'.taken ≡ w.taken → ⊥) → IsSomeAnd w'.held (λ now. Is now t)
  if_printed stop.Input turn files s t w w' leads is at put = absurd (put at.taken)
  if_printed stop.Store turn files s t w w' leads is at put = absurd (put at.taken)
  if_printed stop.Output turn files s t w w' leads is at put = all_steps turn files s t w w' leads is at.steps
  if_printed stop.NoMemory turn files s t w w' leads is (inl at) put = absurd (put at.taken)
  if_printed stop.NoMemory turn files s t w w' leads is (inr at) put = all_steps turn files s t w w' leads is at.steps

  nothing_put : (e : Stop) (turn : Turn) (w w' : World) → turn.text ≡ [] → StopsAt e turn w w' → w'.taken ≡ w.taken
  nothing_put stop.Input turn w w' none at = at.taken
  nothing_put stop.Store turn w w' none at = at.taken
  nothing_put stop.Output turn w w' none at =
      let some = at.some in
      let length_is : length turn.text ≡ 0 = ap length none in absurd (omega (arith, some, length_is))
  nothing_put stop.NoMemory turn w w' none (inl at) = at.taken
  nothing_put stop.NoMemory turn w w' none (inr at) =
      let some = at.some in
      let length_is : length turn.text ≡ 0 = ap length none in absurd (omega (arith, some, length_is))

  printed_at : (e : Stop) (before : List Turn) (turn : Turn) (later : List Turn) (steps : List Step) (tiles : ℕ)
      (rest : List Turn) (s : State) (states : List State) (files : Files) (w mid w' : World)
      → quiet_turn steps tiles ∷ rest ≡ before ++ turn ∷ later → Path Is Ends files s (before ++ turn ∷ later) (s ∷ states)
      → w.held ≡ Some files → TurnsDone before w mid → StopsAt e turn mid w' → (w'.taken ≡ mid.taken → ⊥)
      → IsSomeAnd w'.held (λ now. Is now (state_at s states (suc (length before - 1))))
  printed_at e [] turn later steps tiles rest s states files w mid w' parts path is done at put =
      let none = ap (λ (x : Turn). x.text) (first_turn (quiet_turn steps tiles) turn rest later parts) in
      absurd (put (nothing_put e turn mid w' none at))
  printed_at e (first ∷ before) turn later steps tiles rest s states files w mid w' parts path is done at put =
      let count : length before ≡ length (first ∷ before) - 1 = omega arith in
      subst (λ n. IsSomeAnd w'.held (λ now. Is now (state_at s states (suc n)))) count
      (if_printed e turn (all_changed (steps_of (first ∷ before)) files) (state_at s states (length before))
      (state_at s states (suc (length before))) mid w' (at_turn (first ∷ before) turn later s (s ∷ states) files path)
      (told_after (steps_of (first ∷ before)) w.held mid.held files is done.steps.held) at put)

  -- where a run stops whose first turn settles
  pub run_stops : (e : Stop) (steps : List Step) (tiles : ℕ) (rest : List Turn) (s : State) (states : List State)
      (files : Files) (w w' : World) → Path Is Ends files s (quiet_turn steps tiles ∷ rest) (s ∷ states)
      → w.held ≡ Some files → StopsIn e (quiet_turn steps tiles ∷ rest) w w'
      → StopsBetween Is s states (quiet_turn steps tiles ∷ rest) e w w'
  run_stops e steps tiles rest s states files w w' path is at = record {
    stops = at;
    stopped = stopped_at e at.before at.turn at.later steps tiles rest s states files w at.mid w' at.parts
        (subst (λ turns. Path Is Ends files s turns (s ∷ states)) at.parts path) is at.done at.at;
    printed = printed_at e at.before at.turn at.later steps tiles rest s states files w at.mid w' at.parts
        (subst (λ turns. Path Is Ends files s turns (s ∷ states)) at.parts path) is at.done at.at;
  }

  -- what holds of the files of each state holds of what a stop leaves
  pub stop_among : (P : Files → Type 0) → ((now : Files) (t : State) → Is now t → P now) → (e : Stop)
      (turns : List Turn) (s : State) (states : List State) (files : Files) (w w' : World)
      → Path Is Ends files s turns states → w.held ≡ Some files → StopsIn e turns w w' → IsSomeAnd w'.held P
  stop_among P each e turns s states files w w' path is at =
      let r = at_stop e at.before at.turn at.later s states files w at.mid w'
      (subst (λ turns. Path Is Ends files s turns states) at.parts path) is at.done at.at in
      either_is P (λ now. Is now (state_at s states (length at.before)))
      (λ now. Is now (state_at s states (suc (length at.before)))) w'.held
      (λ now holds. each now (state_at s states (length at.before)) holds)
      (λ now holds. each now (state_at s states (suc (length at.before))) holds) r.between

  -- ---- to the end

  path_end : (turns : List Turn) (states : List State) (s : State) (files : Files) → Path Is Ends files s turns states
      → Ends (all_changed (steps_of turns) files) (last_of s states)
  path_end [] [] s files path = path
  path_end [] (t ∷ states) s files path = absurd path
  path_end (turn ∷ turns) [] s files path = absurd path
  path_end (turn ∷ turns) (t ∷ states) s files path =
      subst (λ now. Ends now (last_of t states)) (sym (changed_append turn.steps (steps_of turns) files))
      (path_end turns states t (all_changed turn.steps files) path.1)

  -- where a run ends that nothing stops
  pub run_ends : (turns : List Turn) (s : State) (states : List State) (files : Files) (w w' : World)
      → Path Is Ends files s turns states → w.held ≡ Some files → TurnsDone turns w w'
      → (now : Files) × (w'.held ≡ Some now) × Ends now (last_of s states)
  run_ends turns s states files w w' path is done = (
    all_changed (steps_of turns) files,
    told_after (steps_of turns) w.held w'.held files is done.steps.held,
    path_end turns states s files path,
  )

  -- ---- turns in front of others

  -- behind a path, from files that are as it ends
  pub path_append : (xs ys : List Turn) (ss ts : List State) (s : State) (files : Files)
      → Path Is Ends files s xs ss
      → ((now : Files) → Ends now (last_of s ss) → Path Is Ends now (last_of s ss) ys ts)
      → Path Is Ends files s (xs ++ ys) (ss ++ ts)
  path_append [] ys [] ts s files path next = next files path
  path_append [] ys (t ∷ ss) ts s files path next = absurd path
  path_append (x ∷ xs) ys [] ts s files path next = absurd path
  path_append (x ∷ xs) ys (t ∷ ss) ts s files path next =
      (path.0, path_append xs ys ss ts t (all_changed x.steps files) path.1 next)
