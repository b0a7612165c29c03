-- What a call of the engine does over a kept state.
use Rattle.std.proofs.Common.{◌≡◌, ℕ, ◌+◌, ◌≤◌, Bool, true, false, not, is_some, cond, nat_le, length, List, Option, Some, None, Result, Ok, Err, IfOk, IfSome, refl, sym, ap, subst, ◌∙◌, arith}
use Rattle.std.specs.Prelude.{if◌then◌else◌}
use Rattle.std.specs.FinMap.{keys}
use Rattle.terrain_base.specs.declared.store.Change.{Change}
use Rattle.terrain_base.specs.Step.{Files}
use Rattle.tile_deps.specs.Tiles.{touched}
use Rattle.database.specs.declared.answer.EngineAnswer.{EngineAnswer}
use Rattle.database.specs.declared.answer.EngineAnswer.TheVariants.{CellPresent, CellAbsent, DatabaseFull, NotEmpty, NotADatabase, Trouble, NoTile, TileLost, OldVersion, NotOld, StoreFault, NoMemory}
use Rattle.database.specs.Answer.{IsStop, OnlyStops}
use Rattle.database.specs.Commands.{Command, Add, Replace, Remove, after, edit_of, has_key, key_of, next, refusal_of}
use Rattle.database.specs.State.{State, AreFiles}
use Rattle.db_files.specs.Serving.{count_existing}
use Rattle.db_engine.specs.Edited.{Refused, Turned, Edited, EditedBy, EditRan, Ends}
use Rattle.db_engine.specs.Holding.{Stands}
use Rattle.db_engine.specs.Opened.{Contents}
use Rattle.db_engine.specs.Rows.{refusal_by_rows}
use Rattle.db_engine.proofs.CellRows.{refusal_is}
use Rattle.db_trial.specs.Step.{Keeps, Did, told_of}

-- ---- what the answer tells

by_present : (T : Type 0) (b : Bool) (refusal : EngineAnswer) (answer : EngineAnswer) → told_of {T = T} (Err refusal) ≡ Ok false
    → (if b then None else Some refusal) ≡ Some answer → told_of {T = T} (Err answer) ≡ Ok false
by_present T true refusal answer told e = absurd (cc)
by_present T false refusal answer told e = subst (λ o. IfSome o (λ a. told_of {T = T} (Err a) ≡ Ok false)) e told

by_room : (T : Type 0) (has full : Bool) (refusal other : EngineAnswer) (answer : EngineAnswer)
    → told_of {T = T} (Err refusal) ≡ Ok false → told_of {T = T} (Err other) ≡ Ok false
    → (if has then Some refusal else (if full then Some other else None)) ≡ Some answer → told_of {T = T} (Err answer) ≡ Ok false
by_room T true full refusal other answer told too e = subst (λ o. IfSome o (λ a. told_of {T = T} (Err a) ≡ Ok false)) e told
by_room T false true refusal other answer told too e = subst (λ o. IfSome o (λ a. told_of {T = T} (Err a) ≡ Ok false)) e too
by_room T false false refusal other answer told too e = absurd (cc)

told_by_refusal : (T : Type 0) (c : Command) (s : State) (answer : EngineAnswer) → refusal_of c s ≡ Some answer → told_of {T = T} (Err answer) ≡ Ok false
told_by_refusal T (Add k bytes) s answer e = by_room T (has_key s k) (nat_le 4096 (length (keys s.cells))) (CellPresent k.square k.level) DatabaseFull answer refl refl e
told_by_refusal T (Replace k bytes) s answer e = by_present T (has_key s k) (CellAbsent k.square k.level) answer refl e
told_by_refusal T (Remove k) s answer e = by_present T (has_key s k) (CellAbsent k.square k.level) answer refl e

stop_told : (T : Type 0) (P : Bool → Type 0) (a : EngineAnswer) → IsStop a → IfOk (told_of {T = T} (Err a)) P × OnlyStops (told_of {T = T} (Err a))
stop_told T P (CellPresent square level) stop = absurd stop
stop_told T P (CellAbsent square level) stop = absurd stop
stop_told T P DatabaseFull stop = absurd stop
stop_told T P (NotEmpty name) stop = absurd stop
stop_told T P (NotADatabase line) stop = absurd stop
stop_told T P (Trouble trouble) stop = absurd stop
stop_told T P (NoTile tile) stop = absurd stop
stop_told T P (TileLost name) stop = absurd stop
stop_told T P (OldVersion version) stop = absurd stop
stop_told T P (NotOld version) stop = absurd stop
stop_told T P StoreFault stop = (tt, tt)
stop_told T P NoMemory stop = (tt, tt)

-- ---- the two ways of a command

-- all that a call of the engine says of the command
pub record Called {T : Type 0} (c : Command) (s : State) (o o' : Contents) (held held' : Option Files)
    (log log' : Option (List Change)) (faults faults' work work' : ℕ) (result : Result T EngineAnswer) : Type 0 where
  pub keeps : Keeps held o s
  pub edited : Edited c s held held' log log' o' work work' result
  pub ends : refusal_of c s ≡ None → Ends (edit_of c) s held' o' result
  pub refused : (answer : EngineAnswer) → refusal_by_rows c o.rows ≡ Some answer → Refused answer o o' held held' log log' faults faults' work work' result
  pub turned : refusal_by_rows c o.rows ≡ None → Turned (edit_of c) o o' result

next_by : (c : Command) (s : State) (x : Option EngineAnswer) → refusal_of c s ≡ x → next c s ≡ (if is_some x then s else after (edit_of c) s)
next_by c s x e = ap (λ x. if is_some x then s else after (edit_of c) s) e

done_so : {T : Type 0} (c : Command) (s : State) (o o' : Contents) (held held' : Option Files) {log log' : Option (List Change)} (work work' : ℕ) (result : Result T EngineAnswer)
    → refusal_of c s ≡ None → EditRan (edit_of c) s held held' log log' o' work work' result → Ends (edit_of c) s held' o' result → Turned (edit_of c) o o' result
    → IfOk (told_of result) (Did c s held' o' work work') × OnlyStops (told_of result)
done_so c s o o' held held' work work' (Ok value) none ran ends turned =
    let is = next_by c s None none in (
      record {
        keeps = record {
          stands = subst (Stands held' o') (sym is) ends.stands;
          files = subst (λ t. IfSome held' (λ files. AreFiles files t)) (sym is) ends.files;
          live = ap (λ now. now.live) turned.ok;
        };
        accepted_is = ap (λ x. not (is_some x)) (sym none);
        few = subst (λ n. work' ≤ work + n) (sym (λ i. cond (is_some (none i)) 0 (count_existing (is i) (touched s.params.cap (key_of (edit_of c)).square)))) ran.few;
      },
      tt,
    )
done_so {T} c s o o' held held' work work' (Err a) none ran ends turned = stop_told T _ a ran.stop

refused_so : {T : Type 0} (c : Command) (s : State) (o o' : Contents) (held held' : Option Files) {log log' : Option (List Change)} {faults faults' : ℕ} (work work' : ℕ) (answer : EngineAnswer) (result : Result T EngineAnswer)
    → refusal_of c s ≡ Some answer → Keeps held o s → Refused answer o o' held held' log log' faults faults' work work' result
    → IfOk (told_of result) (Did c s held' o' work work') × OnlyStops (told_of result)
refused_so {T} c s o o' held held' work work' answer result some keeps refused =
    let is = next_by c s (Some answer) some in
    let told : told_of result ≡ Ok false = ap told_of refused.answered ∙ told_by_refusal T c s answer some in
    let same_work = refused.same_work in
    let kept : Keeps held' o' (next c s) =
    subst (λ t. Keeps held' o' t) (sym is) (subst (λ h. Keeps h o' s) (sym refused.same_held) (subst (λ now. Keeps held now s) (sym refused.opened) keeps)) in
    subst (λ x. IfOk x (Did c s held' o' work work') × OnlyStops x) (sym told)
    (record { keeps = kept; accepted_is = ap (λ x. not (is_some x)) (sym some); few = omega arith }, tt)

pub called : {T : Type 0} {c : Command} {s : State} {o o' : Contents} {held held' : Option Files} {log log' : Option (List Change)} {faults faults' work work' : ℕ} {result : Result T EngineAnswer}
    → Called c s o o' held held' log log' faults faults' work work' result
    → IfOk (told_of result) (Did c s held' o' work work') × OnlyStops (told_of result)
called {T} {c = c} {s = s} {o = o} {o' = o'} {held = held} {held' = held'} {log = log} {log' = log'} {work = work} {work' = work'} {result = result} all =
    let same = refusal_is c s o.rows all.keeps.stands.holds.rows_is in
    elim (refusal_of c s) as (λ x. refusal_of c s ≡ x → EditedBy x (edit_of c) s held held' log log' o' work work' result → IfOk (told_of result) (Did c s held' o' work work') × OnlyStops (told_of result)) [
      | None ↦ λ none edited. done_so c s o o' held held' work work' result none edited (all.ends none) (all.turned (same ∙ none))
      | Some answer ↦ λ some edited. refused_so c s o o' held held' work work' answer result some all.keeps (all.refused answer (same ∙ some))
    ] refl all.edited

-- ---- as a generated command

pub did_as : {T : Type 0} {c d : Command} (s : State) (held' : Option Files) (o' : Contents) (work work' : ℕ) (result : Result Bool EngineAnswer) (r : Result T EngineAnswer)
    → c ≡ d → result ≡ told_of r → IfOk (told_of r) (Did c s held' o' work work') × OnlyStops (told_of r)
    → IfOk result (Did d s held' o' work work')
did_as {d = d} s held' o' work work' result r same is both =
    let told : IfOk (told_of r) (Did d s held' o' work work') = subst (λ c. IfOk (told_of r) (Did c s held' o' work work')) same both.0 in
    subst (λ x. IfOk x (Did d s held' o' work work')) (sym is) told
