-- Commands one after the other, and one more behind them.
use Rattle.std.proofs.Common.{◌≡◌, ℕ, ◌+◌, Bool, true, false, not, cond, List, [], ◌∷◌, ◌++◌, Option, refl, sym, ap, subst, ◌∙◌, arith}
use Rattle.std.proofs.lemmas.List.FromFn.{map-range_with_len_more}
use Rattle.terrain_base.specs.Step.{Files}
use Rattle.database.specs.Commands.{Command, next}
use Rattle.database.specs.State.{State}
use Rattle.db_engine.specs.Opened.{Contents}
use Rattle.db_trial.specs.Generated.{drawn_at, generated, generated_list}
use Rattle.db_trial.specs.Sequence.{accepted_in, after_all, is_refused, refused_in, tiles_made, tiles_of}
use Rattle.db_trial.specs.Step.{Keeps, Did, DidAll}

none_first : (n : ℕ) → n + 0 ≡ 0 + n
none_first n = omega arith

one_first : (one whole front last : ℕ) → whole ≡ front + last → one + whole ≡ one + front + last
one_first one whole front last is = omega arith

pub after_more : (commands : List Command) (c : Command) (s : State) → after_all (commands ++ c ∷ []) s ≡ next c (after_all commands s)
after_more [] c s = refl
after_more (d ∷ commands) c s = after_more commands c (next d s)

accepted_more : (commands : List Command) (c : Command) (s : State) → accepted_in (commands ++ c ∷ []) s ≡ accepted_in commands s + cond (is_refused c (after_all commands s)) 0 1
accepted_more [] c s = none_first (cond (is_refused c s) 0 1)
accepted_more (d ∷ commands) c s = one_first (cond (is_refused d s) 0 1) _ _ _ (accepted_more commands c (next d s))

refused_more : (commands : List Command) (c : Command) (s : State) → refused_in (commands ++ c ∷ []) s ≡ refused_in commands s + cond (is_refused c (after_all commands s)) 1 0
refused_more [] c s = none_first (cond (is_refused c s) 1 0)
refused_more (d ∷ commands) c s = one_first (cond (is_refused d s) 1 0) _ _ _ (refused_more commands c (next d s))

pub tiles_more : (commands : List Command) (c : Command) (s : State) → tiles_made (commands ++ c ∷ []) s ≡ tiles_made commands s + tiles_of c (after_all commands s)
tiles_more [] c s = none_first (tiles_of c s)
tiles_more (d ∷ commands) c s = one_first (tiles_of d s) _ _ _ (tiles_more commands c (next d s))

pub did_none : (s : State) (held : Option Files) (o : Contents) (work : ℕ) → Keeps held o s → DidAll [] s held o work work 0 0
did_none s held o work keeps = record { keeps = keeps; accepted_is = refl; refused_is = refl; few = omega arith }

is_true : (b accepted : Bool) → accepted ≡ not b → accepted ≡ true → b ≡ false
is_true true accepted e t = sym t ∙ e
is_true false accepted e t = refl

is_false : (b accepted : Bool) → accepted ≡ not b → accepted ≡ false → b ≡ true
is_false true accepted e t = refl
is_false false accepted e t = sym t ∙ e

pub did_accepted : {commands : List Command} {c : Command} {s : State} {held held' : Option Files} {o o' : Contents} {work mid work' accepted refused : ℕ} {b : Bool}
    → b ≡ true → DidAll commands s held o work mid accepted refused → Did c (after_all commands s) held' o' mid work' b
    → DidAll (commands ++ c ∷ []) s held' o' work work' (accepted + 1) refused
did_accepted {commands = commands} {c = c} {s = s} {held' = held'} {o' = o'} {b = b} passed all one =
    let unrefused = is_true (is_refused c (after_all commands s)) b one.accepted_is passed in
    let a : accepted_in (commands ++ c ∷ []) s ≡ accepted_in commands s + 1 =
    accepted_more commands c s ∙ ap (λ x. accepted_in commands s + cond x 0 1) unrefused in
    let r : refused_in (commands ++ c ∷ []) s ≡ refused_in commands s + 0 =
    refused_more commands c s ∙ ap (λ x. refused_in commands s + cond x 1 0) unrefused in
    let tiles = tiles_more commands c s in
    let a_is = all.accepted_is in
    let r_is = all.refused_is in
    let few = all.few in
    let few_more = one.few in
    record {
      keeps = subst (Keeps held' o') (sym (after_more commands c s)) one.keeps;
      accepted_is = omega arith;
      refused_is = omega arith;
      few = omega arith;
    }

pub did_refused : {commands : List Command} {c : Command} {s : State} {held held' : Option Files} {o o' : Contents} {work mid work' accepted refused : ℕ} {b : Bool}
    → b ≡ false → DidAll commands s held o work mid accepted refused → Did c (after_all commands s) held' o' mid work' b
    → DidAll (commands ++ c ∷ []) s held' o' work work' accepted (refused + 1)
did_refused {commands = commands} {c = c} {s = s} {held' = held'} {o' = o'} {b = b} not_so all one =
    let is_refusal = is_false (is_refused c (after_all commands s)) b one.accepted_is not_so in
    let a : accepted_in (commands ++ c ∷ []) s ≡ accepted_in commands s + 0 =
    accepted_more commands c s ∙ ap (λ x. accepted_in commands s + cond x 0 1) is_refusal in
    let r : refused_in (commands ++ c ∷ []) s ≡ refused_in commands s + 1 =
    refused_more commands c s ∙ ap (λ x. refused_in commands s + cond x 1 0) is_refusal in
    let tiles = tiles_more commands c s in
    let a_is = all.accepted_is in
    let r_is = all.refused_is in
    let few = all.few in
    let few_more = one.few in
    record {
      keeps = subst (Keeps held' o') (sym (after_more commands c s)) one.keeps;
      accepted_is = omega arith;
      refused_is = omega arith;
      few = omega arith;
    }

-- one generated command more
pub generated_more : (number k : ℕ) → generated_list (k + 1) number ≡ generated_list k number ++ generated (drawn_at number k) ∷ []
generated_more number k = map-range_with_len_more (λ j. generated (drawn_at number j)) 0 k k (omega arith)

one_with : {held' : Option Files} {o' : Contents} {work work' accepted refused : ℕ} (number k accepted' refused' : ℕ) (s : State)
    → accepted' ≡ accepted → refused' ≡ refused
    → DidAll (generated_list k number ++ generated (drawn_at number k) ∷ []) s held' o' work work' accepted refused
    → DidAll (generated_list (k + 1) number) s held' o' work work' accepted' refused'
one_with {held'} {o'} {work} {work'} {accepted} {refused} number k accepted' refused' s a r all =
    subst (λ n. DidAll (generated_list (k + 1) number) s held' o' work work' accepted' n) (sym r)
    (subst (λ n. DidAll (generated_list (k + 1) number) s held' o' work work' n refused) (sym a)
    (subst (λ list. DidAll list s held' o' work work' accepted refused) (sym (generated_more number k)) all))

pub more_accepted : {held held' : Option Files} {o o' : Contents} {work mid work' accepted refused : ℕ} {b : Bool} (number k drawn accepted' refused' : ℕ) (s : State)
    → drawn ≡ drawn_at number k → b ≡ true → accepted' ≡ accepted + 1 → refused' ≡ refused
    → DidAll (generated_list k number) s held o work mid accepted refused
    → Did (generated drawn) (after_all (generated_list k number) s) held' o' mid work' b
    → DidAll (generated_list (k + 1) number) s held' o' work work' accepted' refused'
more_accepted {held' = held'} {o' = o'} {mid = mid} {work' = work'} {b = b} number k drawn accepted' refused' s is passed a r all one =
    one_with number k accepted' refused' s a r
    (did_accepted passed all (subst (λ d. Did (generated d) (after_all (generated_list k number) s) held' o' mid work' b) is one))

pub more_refused : {held held' : Option Files} {o o' : Contents} {work mid work' accepted refused : ℕ} {b : Bool} (number k drawn accepted' refused' : ℕ) (s : State)
    → drawn ≡ drawn_at number k → b ≡ false → accepted' ≡ accepted → refused' ≡ refused + 1
    → DidAll (generated_list k number) s held o work mid accepted refused
    → Did (generated drawn) (after_all (generated_list k number) s) held' o' mid work' b
    → DidAll (generated_list (k + 1) number) s held' o' work work' accepted' refused'
more_refused {held' = held'} {o' = o'} {mid = mid} {work' = work'} {b = b} number k drawn accepted' refused' s is not_so a r all one =
    one_with number k accepted' refused' s a r
    (did_refused not_so all (subst (λ d. Did (generated d) (after_all (generated_list k number) s) held' o' mid work' b) is one))
